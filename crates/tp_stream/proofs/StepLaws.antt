-- The ends of a call with a segment: refused, full or without a number after joining, or accepted. Assumes nothing.
use Rattle.std.specs.Prelude.{Ok, Err, Option, Some, None}
use Prim.Native.Nat.{ℕ, ◌+◌, ◌≤◌, ◌<◌, min}
use mathlib.Core.Path.{◌≡◌, refl, sym, ap, ◌∙◌}
use mathlib.Core.Bool.{Bool, true, false, cond}
use mathlib.Core.List.{List}
use native.Mathlib.Omega.{arith}
use borrow.Author.Tests.{ltb-false, le-leb, lt-leb}
use lib.Dec.{ltb}
use lib.ListN.{length, take}
use Rattle.numbers.specs.Refusals.{ranges_full, count_full}
use Rattle.numbers.specs.Answers.{refused, pass, refuse◌when◌else◌}
use Rattle.numbers.proofs.AnswerLaws.{when_hit, when_pass}
use Rattle.refusal.specs.declared.Refusal.{Refusal}
use Rattle.refusal.specs.declared.Refusal.TheVariants.{RangesFull, CountFull}
use Rattle.refusal.specs.Said.{said}
use Rattle.tp_machine.specs.declared.TpRange.{TpRange}
use Rattle.tp_machine.specs.Segments.{written}
use Rattle.tp_machine.specs.Ranges.{joined}
use Rattle.tp_machine.specs.Machine.{most, highest, last_number, State, judged, taken, too_many, counted_out, after, step}
use Rattle.tp_machine.specs.Meaning.{range, range_of}
use Rattle.tp_machine.proofs.Joining.{joined_many}
use Rattle.tp_range.specs.declared.Joined.{Joined}
use Rattle.tp_range.specs.Joining.{placed, fitted, joined_in}
use Rattle.tp_segment.specs.declared.TpHeader.{TpHeader}
use Rattle.tp_rules.specs.Judging.{Passed}
use Rattle.tp_stream.specs.declared.TpStream.{TpStream}
use Rattle.tp_stream.specs.Stream.{view, stored}
use Rattle.tp_stream.specs.Promises.{Ran}
use Rattle.tp_stream.proofs.StreamLaws.{held_take, held_length, stored_view, view_stored}

-- how far a segment goes that passed
pub ends_low : (s : State) (seg : List ℕ) (room : ℕ) (h : TpHeader) → Passed s seg room h → h.offset + h.size ≤ highest
ends_low s seg room h passed = omega (arith, passed.low, ap (λ (k : TpHeader). k.offset + k.size) passed.header)

-- what joining gives tells whether they are too many
module _ (array rs : List TpRange) where
  abbrev there : Joined
  there = record { ranges = placed array rs; count = length rs }

  none_fits : None ≡ fitted array rs → ltb most (length rs) ≡ true
  none_fits e = go (ltb most (length rs)) e
    where
      go : (b : Bool) → None ≡ cond b None (Some there) → b ≡ true
      go true e = refl
      go false e = cc

  some_fits : (g : Joined) → Some g ≡ fitted array rs → (ltb most (length rs) ≡ false) × (g ≡ there)
  some_fits g e = go (ltb most (length rs)) e
    where
      go : (b : Bool) → Some g ≡ cond b None (Some there) → (b ≡ false) × (g ≡ there)
      go true e = absurd cc
      go false e = (refl, cc)

module _ (s : TpStream) (seg buf : List ℕ) where
  -- a refusal hands all back as it was
  pub ran_refused : (r : Refusal) → judged (view s) seg (length buf) ≡ refused (said r) → Ran s seg buf (record { answer = Err r; after = s }) buf
  unfolding step after
  ran_refused r e = record { steps = rw e; places = sym (stored_view s) }

  -- an acceptance hands the machine's state back, put into the record
  ran_accepted : (t : TpStream) (b : List ℕ) → judged (view s) seg (length buf) ≡ pass → t ≡ stored s (taken (view s) seg)
      → length (taken (view s) seg).ranges ≤ length s.ranges → b ≡ written buf seg
      → Ran s seg buf (record { answer = Ok tt; after = t }) b
  unfolding step after
  ran_accepted t b e h few w =
      let v : view t ≡ taken (view s) seg = ap view h ∙ view_stored s (taken (view s) seg) few in
      record { steps = rw e (λ i. record { answer = pass; state = v i; buffer = w i }); places = h ∙ ap (stored s) (sym v) }

  -- after joining
  module _
      (h : TpHeader) (passed : Passed (view s) seg (length buf) h) (long : length s.ranges ≡ most)
      (number : ℕ) (next : number ≡ min (s.accepted + 1) last_number)
      (o : Option Joined) (is : o ≡ joined_in s.ranges s.count (range h.offset (h.offset + h.size) number)) where
    abbrev rs : List TpRange
    rs = joined (range h.offset (h.offset + h.size) number) (take s.count s.ranges)

    -- the machine joins what the array holds
    same_of : rs ≡ joined (range_of number seg) (view s).ranges
    same_of =
        let few : s.count ≤ length s.ranges = omega (arith, passed.good.few, held_length s.count s.ranges) in
        λ i. joined (range (passed.header i).offset ((passed.header i).offset + (passed.header i).size) number) (sym (held_take s.count s.ranges few) i)

    -- whether they are too many does not depend on the number
    many : ltb most (length rs) ≡ too_many (view s) seg
    many = ap (ltb most) (ap length same_of ∙ joined_many (range_of number seg) (range_of (s.accepted + 1) seg) (view s).ranges refl)

    pub ran_full : o ≡ None → Ran s seg buf (record { answer = Err RangesFull; after = s }) buf
    unfolding joined_in
    ran_full e = ran_refused RangesFull (passed.rest ∙ when_hit ranges_full (too_many (view s) seg) _ (sym many ∙ none_fits s.ranges rs (sym e ∙ is)))

    module _ (g : Joined) (found : o ≡ Some g) where
      fits : (ltb most (length rs) ≡ false) × (g ≡ record { ranges = placed s.ranges rs; count = length rs })
      unfolding joined_in
      fits = some_fits s.ranges rs g (sym found ∙ is)

      rest : judged (view s) seg (length buf) ≡ (refuse count_full when counted_out (view s) else pass)
      rest = passed.rest ∙ when_pass ranges_full (too_many (view s) seg) _ (sym many ∙ fits.0)

      pub ran_counted_out : s.accepted ≡ last_number → Ran s seg buf (record { answer = Err CountFull; after = s }) buf
      ran_counted_out last = ran_refused CountFull (rest ∙ when_hit count_full (counted_out (view s)) pass (le-leb last_number s.accepted (omega arith)))

      pub ran_taken : s.accepted < last_number → (e : Option ℕ) → e ≡ cond h.more s.end (Some (h.offset + h.size)) → (b : List ℕ) → b ≡ written buf seg
          → Ran s seg buf (record { answer = Ok tt; after = record { limit = s.limit; ranges = g.ranges; count = g.count; end = e; accepted = number } }) b
      ran_taken left e q b w =
          let few : length (taken (view s) seg).ranges ≤ most = ltb-false most (length (taken (view s) seg).ranges) (sym many ∙ fits.0) in
          let ends : e ≡ (taken (view s) seg).end = q ∙ ap (λ (k : TpHeader). cond k.more s.end (Some (k.offset + k.size))) passed.header in
          let given : number ≡ s.accepted + 1 = omega (arith, next) in
          let same : rs ≡ (taken (view s) seg).ranges = same_of ∙ ap (λ (n : ℕ). joined (range_of n seg) (view s).ranges) given in
          ran_accepted _ b (rest ∙ when_pass count_full (counted_out (view s)) pass (lt-leb last_number s.accepted left))
          (λ i. record {
            limit = s.limit;
            ranges = (ap (λ (j : Joined). j.ranges) fits.1 ∙ ap (placed s.ranges) same) i;
            count = (ap (λ (j : Joined). j.count) fits.1 ∙ ap length same) i;
            end = ends i;
            accepted = given i;
          })
          (omega arith) w
