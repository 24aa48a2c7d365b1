-- `tp_lent::take` meets its contract: what is asked of the words' own end, count and first range. Assumes nothing.
use mathlib.Core.Path.{◌≡◌, sym, ap, ◌∙◌}
use lib.ListN.{length}
use Rattle.std.proofs.lemmas.Result.{err_from_is_err_and}
use Rattle.refusal.specs.Said.{count_said}
use Rattle.tp_machine.specs.Taking.{ready}
use Rattle.tp_stream.specs.declared.TpStream.{TpStream}
use Rattle.tp_stream.specs.Stream.{view}
use Rattle.tp_stream.proofs.TakingLaws.{took_end, took_nothing}
use Rattle.tp_words.specs.Words.{stream_of}
use Rattle.tp_lent.proofs.CallLaws.{readies}
use Rattle.tp_lent.proofs.take.Goals as goal

pub returns-in_err-end : goal.returns-in_err-end
returns-in_err-end c =
    let said : count_said c.ready_of.result ≡ ready (view (stream_of c.args.words.now)) (length c.args.buf.now) =
    c.ready_of.ensures
    ∙ readies c.in-Some.stream.words.now c.in-Some.ensures.0 _ _ _ c.end.ensures c.count.ensures c.range_at.ensures (length c.args.buf.now)
    ∙ ap (λ (s : TpStream). ready (view s) (length c.args.buf.now)) c.in-Some.ensures.1
    in
    let p = err_from_is_err_and c.from_residual.result c.from_residual.ensures.1 in
    rw (p.1, p.2) (took_nothing (stream_of c.args.words.now) c.args.buf.now _ (ap count_said (sym c.in_err-end.was) ∙ said))

pub returns : goal.returns
returns c =
    let said : count_said c.ready_of.result ≡ ready (view (stream_of c.args.words.now)) (length c.args.buf.now) =
    c.ready_of.ensures
    ∙ readies c.in-Some.stream.words.now c.in-Some.ensures.0 _ _ _ c.end.ensures c.count.ensures c.range_at.ensures (length c.args.buf.now)
    ∙ ap (λ (s : TpStream). ready (view s) (length c.args.buf.now)) c.in-Some.ensures.1
    in
    took_end (stream_of c.args.words.now) c.args.buf.now _ _ (ap count_said (sym c.in_ok-end.was) ∙ said) c.put_length.ensures
