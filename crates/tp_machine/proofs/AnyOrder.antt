-- Order doesn't matter. Up to the claim nothing goes along a run: whether a stream is complete and what its report is was shown of its accepted
-- segments (EveryRun, EveryReport, EveryEnd), and of them it is enough to see that no order is told. Assumes nothing.
use Rattle.std.specs.Prelude.{Option, Some, ℕ}
use Prim.Native.Nat.{ℕ, ◌+◌, ◌-◌, ◌≤◌, ◌<◌}
use mathlib.Core.Path.{◌≡◌, refl, sym, ap, subst, ◌∙◌}
use mathlib.Core.Bool.{Bool, true, false, cond, or-false, false≢true}
use mathlib.Core.List.{List, [], ◌∷◌, ◌++◌}
use mathlib.Core.Logic.{◌↔◌, ◌⊎◌, inl, inr, ⊎_elim, ◌≢◌}
use native.Mathlib.Omega.{arith}
use borrow.Author.Tests.{eqb-true, eq-eqb, eqb-false, le-leb, lt-ltb, not-true}
use lib.Dec.{eqb}
use lib.ListN.{length}
use lib.Seq.{ext_get_or}
use Rattle.numbers.specs.Bytes.{be32}
use Rattle.numbers.specs.Answers.{accepted, Verdict, All}
use Rattle.numbers.proofs.AnswerLaws.{all_map, all_both}
use Rattle.numbers.proofs.TestLaws.{same_test}
use Rattle.tp_machine.specs.declared.TpRange.{TpRange}
use Rattle.tp_machine.specs.Lists.{OneOf, counted, Rearranged, Latest}
use Rattle.tp_machine.specs.Segments.{offset, more, size, end_of, header, pasted}
use Rattle.tp_machine.specs.Ranges.{any}
use Rattle.tp_machine.specs.Machine.{State, Out, taken, step, previous}
use Rattle.tp_machine.specs.Taking.{whole, complete, end_held, taking}
use Rattle.tp_machine.specs.Meaning.{Segment, InOrder, Before, Agrees}
use Rattle.tp_machine.specs.Runs.{begins, if_accepted, admitted, holds, covered, spans, brought, heads, final, around, Lies, WholeEnds, Reported}
use Rattle.tp_machine.specs.AnyOrder.{NoneEmpty, Overlap, NoTwoOverlap, ItsEndGreatest, Feed, opening, outcome, AllPass, NoneRefused, SameReport, OrderDoesNotMatter, same, RearrangedMeans, Whole, CompleteExactly, SomeFollow, RestIsEnough}
use Rattle.tp_machine.proofs.Lists.{and_inv, all_moved, all_any, any_moved, moved_back, one_of_moved, one_has, one_passes, two_of, pairwise_map, latest_of, all_latest, each_one, counted_once, counted_moved, as_often}
use Rattle.tp_machine.proofs.Joining.{held, lies_around}
use Rattle.tp_machine.proofs.Tests.{whole_means, complete_means}
use Rattle.tp_machine.proofs.Steps.{fed_reached}
use Rattle.tp_machine.proofs.InOrder.{kept_in_order}
use Rattle.tp_machine.proofs.Runs.{Chain, taken_all, ran, chain_each, every_run}
use Rattle.tp_machine.proofs.Report.{every_report}
use Rattle.tp_machine.proofs.Ends.{end_is_greatest, every_end}

-- ---- a rearrangement
same_bytes : (s t : List ℕ) → same s t ≡ true → s ≡ t
unfolding same
same_bytes [] [] e = refl
same_bytes [] (y ∷ t) e = absurd (false≢true e)
same_bytes (x ∷ s) [] e = absurd (false≢true e)
same_bytes (x ∷ s) (y ∷ t) e = let o = and_inv (eqb x y) (same s t) e in rw (eqb-true x y o.0, same_bytes s t o.1)

its_own : (s : List ℕ) → same s s ≡ true
unfolding same
its_own [] = refl
its_own (x ∷ s) = rw (eq-eqb x x refl) (its_own s)

same_means : (s t : List ℕ) → (same s t ≡ true) ↔ (s ≡ t)
same_means s t = (same_bytes s t, λ e. subst (λ (x : List ℕ). same s x ≡ true) e (its_own s))

pub rearranged_means : RearrangedMeans
rearranged_means = record { same_means = same_means; means = λ ss ts. (λ r s. counted_moved (same s) r, as_often same same_means ss ts) }

-- ---- where none is refused, all are accepted
all_admitted : (o : Out) (ss : List (List ℕ)) → AllPass o ss → admitted o ss ≡ ss
unfolding admitted
all_admitted o [] h = refl
all_admitted o (s ∷ ss) h =
    let x : Out = step o.state s o.buffer in
    ap (λ (v : Verdict). if_accepted v s (admitted x ss)) h.0 ∙ ap (λ (l : List (List ℕ)). s ∷ l) (all_admitted x ss h.1)

-- ---- complete exactly when the accepted segments make a whole
unheld : (x : ℕ) (r : TpRange) → (x < r.start) ⊎ (r.end ≤ x) → holds x r ≡ false
unheld x r o = go (holds x r) refl
  where
    go : (t : Bool) → holds x r ≡ t → t ≡ false
    go true h = let k = held x r h in absurd (⊎_elim (λ l. omega arith) (λ l. omega arith) o)
    go false h = refl

-- ranges in order, up to e and without a gap, are one that begins at 0
one_whole : (rs : List TpRange) (e : ℕ) (r : TpRange) → OneOf r rs → InOrder rs → All (λ r. r.start ≤ r.end) rs → All (λ r. r.end ≤ e) rs → ((x : ℕ) → x < e → covered rs x ≡ true) → whole rs ≡ true
unfolding any
one_whole [] e r o i f w c = absurd o
one_whole (r ∷ []) e _ o i f w c = go (eqb r.start 0) refl
  where
    go : (t : Bool) → eqb r.start 0 ≡ t → t ≡ true
    go true h = refl
    go false h =
        let late = eqb-false r.start 0 h in
        let k = held 0 r (sym (or-false (holds 0 r)) ∙ c 0 (omega arith)) in
        absurd (late (omega arith))
one_whole (r ∷ y ∷ rs) e _ o i f w c =
    let none : covered (r ∷ y ∷ rs) r.end ≡ false = all_any (holds r.end) (r ∷ y ∷ rs) (unheld r.end r (inr (omega arith)), all_map (Before r) (λ q. holds r.end q ≡ false) (λ q h. unheld r.end q (inl h)) (y ∷ rs) i.0) in
    absurd (false≢true (sym none ∙ c r.end (omega (arith, i.0.0, f.1.0, w.1.0))))

module _ (f : Feed) where
  p : State
  p = (outcome f).state

  segs : List (List ℕ)
  segs = admitted (opening f) f.segments

  complete_whole : complete p ≡ true → Whole segs
  unfolding p segs
  complete_whole c =
      let closed = every_end f.limit f.buffer f.segments c in
      let given = every_report f.limit f.buffer f.segments c in
      let one : given.size ≡ closed.end = ap end_held (sym given.one_range ∙ closed.one_range) in
      record { end = closed.end; ends = closed.whole; no_gap = λ x h. given.reported.all x (omega arith) }

  whole_complete : Whole segs → complete p ≡ true
  unfolding p segs
  whole_complete w =
      let run = every_run f.limit f.buffer f.segments in
      let reached = fed_reached (opening f) f.segments (begins f.limit) in
      let (last, l) = latest_of final segs (one_passes final segs w.ends.last w.ends.among w.ends.is_final) in
      let greatest = end_is_greatest p reached (end_of last) (run.ended.by last l) in
      let low : end_of last ≤ w.end = all_latest final (λ s. end_of s ≤ w.end) segs last l w.ends.none_past in
      let (held, number, one) =
      whole_means p.ranges
      (one_whole p.ranges w.end greatest.one greatest.held (kept_in_order.reached p reached)
      (all_map _ (λ r. r.start ≤ r.end) (λ r h. h.forth) p.ranges run.good.each)
      (all_map (λ r. r.end ≤ end_of last) (λ r. r.end ≤ w.end) (λ r h. omega arith) p.ranges greatest.none_past)
      (λ x h. run.covers x ∙ w.no_gap x h)) in
      (complete_means p).1 (record { good = run.good; end = end_of last; known = run.ended.by last l; held = held; number = number; one_range = one })

pub complete_exactly : CompleteExactly
unfolding p segs
complete_exactly f = (complete_whole f, whole_complete f)

-- ---- of a whole no order is told
ends_moved : {l m : List (List ℕ)} → Rearranged l m → (e : ℕ) → WholeEnds l e → WholeEnds m e
ends_moved r e w = record { last = w.last; among = one_of_moved w.last r w.among; is_final = w.is_final; there = w.there; none_past = all_moved (λ s. end_of s ≤ e) r w.none_past }

whole_moved : {l m : List (List ℕ)} → Rearranged l m → Whole l → Whole m
whole_moved r w = record { end = w.end; ends = ends_moved r w.end w.ends; no_gap = λ x h. sym (any_moved (spans x) r) ∙ w.no_gap x h }

-- it has one end
one_end : (segs : List (List ℕ)) (e d : ℕ) → WholeEnds segs e → WholeEnds segs d → e ≡ d
one_end segs e d v w =
    let a : end_of v.last ≤ d = one_has (λ s. end_of s ≤ d) segs v.last w.none_past v.among in
    let b : end_of w.last ≤ e = one_has (λ s. end_of s ≤ e) segs w.last v.none_past w.among in
    omega (arith, v.there, w.there)

-- ---- nor of the newest bytes, where none is empty and no two overlap
one_there : (ss : List (List ℕ)) → NoTwoOverlap ss → (s t : List ℕ) → OneOf s ss → OneOf t ss → Overlap s t → s ≡ t
one_there ss n s t o k (x, p, q) = ⊎_elim (λ e. e) (λ r. absurd (⊎_elim (λ h. h (x, p, q)) (λ h. h (x, q, p)) r)) (two_of (λ a b. ¬ Overlap a b) ss s t n o k)

-- the latest that passes a test is the same one, where any two that pass it overlap
module _ (test : List ℕ → Bool) {ss ts : List (List ℕ)} (r : Rearranged ss ts) (n : NoTwoOverlap ss) (meet : (s t : List ℕ) → OneOf s ss → OneOf t ss → test s ≡ true → test t ≡ true → Overlap s t) where
  same_latest : (s t : List ℕ) → Latest test ss s → Latest test ts t → s ≡ t
  same_latest s t l m =
      let o = all_latest test (λ x. OneOf x ss) ss s l (each_one ss) in
      let k = one_of_moved t (moved_back r) (all_latest test (λ x. OneOf x ts) ts t m (each_one ts)) in
      one_there ss n s t o k (meet s t o k l.passes m.passes)

-- a segment that brings a header, and is not empty, spans place 0
head_spans : (s : List ℕ) → size s ≢ 0 → heads s ≡ true → spans 0 s ≡ true
head_spans s n h = let at = eqb-true (offset s) 0 h in rw (le-leb (offset s) 0 (omega arith), lt-ltb 0 (end_of s) (omega arith))

module _ {ss ts : List (List ℕ)} (r : Rearranged ss ts) (full : NoneEmpty ss) (n : NoTwoOverlap ss) where
  same_header : (s t : List ℕ) → Latest heads ss s → Latest heads ts t → s ≡ t
  same_header =
      same_latest heads r n
      (λ s t o k p q. (0, head_spans s (one_has (λ x. size x ≢ 0) ss s full o) p, head_spans t (one_has (λ x. size x ≢ 0) ss t full k) q))

  same_reported : (e : ℕ) (m w : List ℕ) → Reported ss e m → Reported ts e w → m ≡ w
  same_reported e m w a b =
      let head : a.from ≡ b.from = same_header a.from b.from a.latest b.latest in
      let bytes : a.bytes ≡ b.bytes =
      ext_get_or 0 a.bytes b.bytes (a.size ∙ sym b.size)
      (λ x h.
      let low : x < e = omega (arith, a.size) in
      let (s, l) = latest_of (spans x) ss (a.all x low) in
      let (t, k) = latest_of (spans x) ts (b.all x low) in
      a.newest x low s l ∙ ap (brought x) (same_latest (spans x) r n (λ s t _ _ p q. (x, p, q)) s t l k) ∙ sym (b.newest x low t k)) in
      a.whole ∙ (λ i. pasted (header (head i)) 4 (be32 (e + 8)) ++ bytes i) ∙ sym b.whole

-- ---- the two streams
module _ (f g : Feed) (r : Rearranged f.segments g.segments) (h : NoneRefused f) (k : NoneRefused g) where
  moved : Rearranged (admitted (opening f) f.segments) (admitted (opening g) g.segments)
  moved = rw (all_admitted (opening f) f.segments h, all_admitted (opening g) g.segments k) r

  both : complete (outcome f).state ≡ complete (outcome g).state
  both =
      same_test (complete (outcome f).state) (complete (outcome g).state) (λ c. (complete_exactly g).1 (whole_moved moved ((complete_exactly f).0 c)))
      (λ c. (complete_exactly f).1 (whole_moved (moved_back moved) ((complete_exactly g).0 c)))

  equal : NoneEmpty f.segments → NoTwoOverlap f.segments → complete (outcome f).state ≡ true → SameReport (outcome f) (outcome g)
  equal full n c =
      let d : complete (outcome g).state ≡ true = sym both ∙ c in
      let a = every_report f.limit f.buffer f.segments c in
      let b = every_report g.limit g.buffer g.segments d in
      let x = every_end f.limit f.buffer f.segments c in
      let y = every_end g.limit g.buffer g.segments d in
      let ends : x.end ≡ y.end = one_end (admitted (opening g) g.segments) x.end y.end (ends_moved moved x.end x.whole) y.whole in
      let size : b.size ≡ a.size = ap end_held (sym b.one_range ∙ y.one_range) ∙ sym ends ∙ ap end_held (sym x.one_range ∙ a.one_range) in
      let all = all_admitted (opening f) f.segments h in
      record {
        end = a.size;
        given = a.answer;
        given_too = b.answer ∙ ap accepted size;
        equal = same_reported moved (rw all full) (rw all n) a.size _ _ a.reported (subst (λ (e : ℕ). Reported (admitted (opening g) g.segments) e (taking (outcome g).state (outcome g).buffer).part) size b.reported);
      }

pub rest_is_enough : RestIsEnough
rest_is_enough f g r h k = record { both_or_neither = both f g r h k; agree = λ full n. record { both_or_neither = both f g r h k; reports_equal = equal f g r h k full n } }

pub order_does_not_matter : OrderDoesNotMatter
order_does_not_matter f g s e = (rest_is_enough f g e.rearranged e.none_refused e.none_refused_either).agree s.none_empty s.no_two_overlap

-- ---- what follows where none is refused

-- an end that is known stays
stays_known : (p : State) (room : ℕ) (ss : List (List ℕ)) (e : ℕ) → Chain p room ss → p.end ≡ Some e → (taken_all p ss).end ≡ Some e
unfolding taken_all
stays_known p room [] e c k = k
stays_known p room (s ∷ ss) e c k = stays_known (taken p s) room ss e c.1 (go (more s) (subst (λ (d : Option ℕ). Agrees d (more s) (end_of s)) k c.0.agrees))
  where
    go : (m : Bool) → Agrees (Some e) m (end_of s) → cond m p.end (Some (end_of s)) ≡ Some e
    go true a = k
    go false a = ap Some (a.1 refl)

-- so each final one tells it
abbrev Tells : Option ℕ → List ℕ → Type 0
Tells e s = final s ≡ true → e ≡ Some (end_of s)

each_final : (p : State) (room : ℕ) (ss : List (List ℕ)) → Chain p room ss → All (Tells (taken_all p ss).end) ss
unfolding taken_all
each_final p room [] c = tt
each_final p room (s ∷ ss) c = (
  (λ f. stays_known (taken p s) room ss (end_of s) c.1 (ap (λ (m : Bool). cond m p.end (Some (end_of s))) (not-true (more s) f))),
  each_final (taken p s) room ss c.1,
)

-- a segment that lies in one of the ranges ends at the greatest end or before it
ends_within : (rs : List TpRange) (e : ℕ) (s : List ℕ) → All (λ r. r.end ≤ e) rs → Lies rs s → end_of s ≤ e
ends_within rs e s none_past l =
    let (r, k) = latest_of (around s) rs l in
    let fits : r.end ≤ e = all_latest (around s) (λ r. r.end ≤ e) rs r k none_past in
    omega (arith, lies_around s r k.passes)

-- two final ones that are not empty end at the same place, and overlap
finals_overlap : (e : ℕ) (s t : List ℕ) → size s ≢ 0 → size t ≢ 0 → end_of s ≡ e → end_of t ≡ e → Overlap s t
finals_overlap e s t m n a b = (e - 1, last_spanned s m a, last_spanned t n b)
  where
    last_spanned : (s : List ℕ) → size s ≢ 0 → end_of s ≡ e → spans (e - 1) s ≡ true
    last_spanned s m a = rw (le-leb (offset s) (e - 1) (omega arith), lt-ltb (e - 1) (end_of s) (omega arith))

module _ (f : Feed) (h : NoneRefused f) where
  q : State
  q = (outcome f).state

  finals : All (Tells q.end) f.segments
  unfolding q
  finals =
      let all = all_admitted (opening f) f.segments h in
      let k = ran (opening f) f.segments in
      subst (All (Tells q.end)) all (subst (λ (p : State). All (Tells p.end) (admitted (opening f) f.segments)) (sym k.state) (each_final (opening f).state (length f.buffer) (admitted (opening f) f.segments) k.chain))

  lie : All (Lies q.ranges) f.segments
  unfolding q
  lie = rw (all_admitted (opening f) f.segments h) at (every_run f.limit f.buffer f.segments).lie

  greatest : ItsEndGreatest f.segments
  unfolding q
  greatest =
      all_map (Tells q.end) (λ s. final s ≡ true → All (λ t. end_of t ≤ end_of s) f.segments)
      (λ s told is_final.
      let top = end_is_greatest q (fed_reached (opening f) f.segments (begins f.limit)) (end_of s) (told is_final) in
      all_map (Lies q.ranges) (λ t. end_of t ≤ end_of s) (λ t. ends_within q.ranges (end_of s) t top.none_past) f.segments lie)
      f.segments finals

  not_both : (s t : List ℕ) → (size s ≢ 0) × Tells q.end s → (size t ≢ 0) × Tells q.end t → ¬ Overlap s t → final s ≡ true → final t ≡ false
  not_both s t a b apart x = go (final t) refl
    where
      go : (v : Bool) → final t ≡ v → v ≡ false
      go true y = absurd (apart (finals_overlap (end_of s) s t a.0 b.0 refl (ap previous (sym (b.1 y) ∙ a.1 x))))
      go false y = refl

  one_final : NoneEmpty f.segments → NoTwoOverlap f.segments → counted final f.segments ≤ 1
  one_final full n =
      counted_once final f.segments
      (pairwise_map (λ s t. ¬ Overlap s t) (λ s t. final s ≡ true → final t ≡ false) (λ s. (size s ≢ 0) × Tells q.end s) not_both f.segments (all_both (λ s. size s ≢ 0) (Tells q.end) f.segments full finals) n)

pub some_follow : SomeFollow
some_follow f h = record {
  segments = rw (all_admitted (opening f) f.segments h) at (chain_each Segment (length f.buffer) (λ p s a. a.segment) (opening f).state (admitted (opening f) f.segments) (ran (opening f) f.segments).chain);
  its_end_greatest = greatest f h;
  one_final = one_final f h;
}
