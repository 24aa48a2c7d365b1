-- The machine's tests mean what the rules say in plain words, both ways; and an accepted segment leaves no malformed state.
-- Assumes nothing.
use Rattle.std.specs.Prelude.{Option, Some, None, ℕ}
use Prim.Native.Nat.{ℕ, ◌+◌, ◌-◌, ◌%◌, ◌≤◌, max}
use mathlib.Core.Path.{◌≡◌, refl, sym, ap, ◌∙◌}
use mathlib.Core.Bool.{Bool, true, false, not, cond, or-false, or-true, false≢true}
use mathlib.Core.List.{List, [], ◌∷◌}
use mathlib.Core.Logic.{inl, inr, ⊎_elim, ◌↔◌}
use native.Mathlib.Nat.{le_refl}
use native.Mathlib.Omega.{arith}
use borrow.Author.Tests.{leb-false, lt-leb, ltb-false, le-ltb, eqb-true, eqb-false, eq-eqb, ne_eqb, not-true, not-false}
use lib.Dec.{ltb, eqb}
use lib.ListN.{length, get_or}
use Rattle.numbers.specs.Bytes.{at32}
use Rattle.numbers.specs.Answers.{All}
use Rattle.numbers.specs.Refusals.{not_a_segment, segment_too_big, unaligned, conflicting_end, buffer_too_short, ranges_full, malformed_state, count_full}
use Rattle.numbers.proofs.AnswerLaws.{when_accepted, when_pass, all_map}
use Rattle.tp_machine.specs.declared.TpRange.{TpRange}
use Rattle.tp_machine.specs.Lists.{OneOf}
use Rattle.tp_machine.specs.Segments.{tp_type, is_segment, offset, more, size, end_of}
use Rattle.tp_machine.specs.Ranges.{any, hull_of, some_touch, greatest_end}
use Rattle.tp_machine.specs.Machine.{most, highest, last_number, State, end_before, never_given, bad_range, end_past, bad_state, too_big, not_aligned, conflicts, previous, data_past, too_short, taken, too_many, counted_out, judged}
use Rattle.tp_machine.specs.Taking.{is_known, whole, complete}
use Rattle.tp_machine.specs.Meaning.{types, range, range_of, NotBefore, Fine, Within, Good, Agrees, Closes, Accepted}
use Rattle.tp_machine.specs.Theorems.{SegmentMeans, GoodMeans, AcceptedMeans, CompleteMeans}
use Rattle.numbers.proofs.TestLaws.{or_inv, or_cases, neither, and_inv, and_fails, not_both}
use Rattle.tp_machine.proofs.Lists.{any_all, all_any}
use Rattle.tp_machine.proofs.Joining.{all_joined, all_apart, joined_apart}
use Rattle.tp_machine.proofs.Greatest.{none_past_means}

-- ---- 30
one_of_means : (x : ℕ) (ys : List ℕ) → (any (eqb x) ys ≡ true) ↔ OneOf x ys
unfolding any
one_of_means x [] = ((λ e. false≢true e), (λ o. absurd o))
one_of_means x (y ∷ ys) = (
  (λ e. ⊎_elim (λ p. inl (eqb-true x y p)) (λ p. inr ((one_of_means x ys).0 p)) (or_cases (eqb x y) (any (eqb x) ys) e)),
  (λ o. ⊎_elim (λ p. rw (eq-eqb x y p)) (λ p. rw ((one_of_means x ys).1 p) (or-true (eqb x y))) o),
)

type_test : (t : ℕ) → tp_type t ≡ any (eqb t) types
unfolding tp_type any
type_test t = rw (or-false (eqb t 0xa1))

type_means : (t : ℕ) → (tp_type t ≡ true) ↔ OneOf t types
type_means t = ((λ e. (one_of_means t types).0 (sym (type_test t) ∙ e)), (λ o. type_test t ∙ (one_of_means t types).1 o))

pub segment_means : SegmentMeans
unfolding is_segment
segment_means s = (
  (λ e.
      let a = and_inv (not (ltb (length s) 20)) _ e in
      let b = and_inv (eqb (at32 s 4) (length s - 8)) _ a.1 in
      let c = and_inv (eqb (get_or s 12 0) 1) _ b.1 in
      let l : 20 ≤ length s = ltb-false (length s) 20 (not-true (ltb (length s) 20) a.0) in
      record { long = l; counted = omega (arith, eqb-true (at32 s 4) (length s - 8) b.0); version = eqb-true (get_or s 12 0) 1 c.0; type = (type_means (get_or s 14 0)).0 c.1 }),
  (λ h. rw (le-ltb (length s) 20 h.long, eq-eqb (at32 s 4) (length s - 8) (omega (arith, h.counted)), h.version, (type_means (get_or s 14 0)).1 h.type)),
)

-- ---- 38
not_before_means : (e : Option ℕ) (x : ℕ) → (end_before e x ≡ false) ↔ NotBefore e x
not_before_means None x = ((λ e. tt), (λ h. refl))
not_before_means (Some e) x = (ltb-false e x, le-ltb e x)

given_means : (count number : ℕ) → (never_given count number ≡ false) ↔ ((1 ≤ number) × (number ≤ count))
given_means count number = (
  (λ e.
      let a = or_inv (eqb number 0) (ltb count number) e in
      let some : number ≡ 0 → ⊥ = eqb-false number 0 a.0 in
      (omega (arith, some), ltb-false count number a.1)),
  (λ h. neither _ _ (ne_eqb number 0 (λ e. absurd (omega (arith, h.0)))) (le-ltb count number h.1)),
)

fine_means : (p : State) (r : TpRange) → (bad_range p r ≡ false) ↔ Fine p r
unfolding bad_range
fine_means p r = (
  (λ e.
      let a = or_inv (ltb r.end r.start) _ e in
      let b = or_inv (ltb p.limit r.end) _ a.1 in
      let c = or_inv (end_before p.end r.end) _ b.1 in
      let d = (given_means p.count r.number).0 c.1 in
      record { forth = ltb-false r.end r.start a.0; within = ltb-false p.limit r.end b.0; not_past = (not_before_means p.end r.end).0 c.0; given = d.0; counted = d.1 }),
  (λ f.
      neither _ _ (le-ltb r.end r.start f.forth) (neither _ _ (le-ltb p.limit r.end f.within)
      (neither _ _ ((not_before_means p.end r.end).1 f.not_past) ((given_means p.count r.number).1 (f.given, f.counted))))),
)

within_means : (e : Option ℕ) (x : ℕ) → (end_past e x ≡ false) ↔ Within e x
within_means None x = ((λ e. tt), (λ h. refl))
within_means (Some e) x = (ltb-false x e, le-ltb x e)

pub good_means : GoodMeans
unfolding bad_state
good_means p = (
  (λ e.
      let a = or_inv (ltb most (length p.ranges)) _ e in
      let b = or_inv (ltb highest p.limit) _ a.1 in
      let c = or_inv (end_past p.end p.limit) _ b.1 in
      let d = or_inv (any (bad_range p) p.ranges) (some_touch p.ranges) c.1 in
      record {
        few = ltb-false most (length p.ranges) a.0;
        low = ltb-false highest p.limit b.0;
        end_within = (within_means p.end p.limit).0 c.0;
        each = all_map (λ r. bad_range p r ≡ false) (Fine p) (λ r. (fine_means p r).0) p.ranges (any_all (bad_range p) p.ranges d.0);
        apart = (all_apart p.ranges).0 d.1;
      }),
  (λ g.
      let each = all_map (Fine p) (λ r. bad_range p r ≡ false) (λ r. (fine_means p r).1) p.ranges g.each in
      neither _ _ (le-ltb most (length p.ranges) g.few) (neither _ _ (le-ltb highest p.limit g.low)
      (neither _ _ ((within_means p.end p.limit).1 g.end_within) (neither _ _ (all_any (bad_range p) p.ranges each) ((all_apart p.ranges).1 g.apart))))),
)

-- ---- 31 to 35, and 39
aligned_means : (seg : List ℕ) → (not_aligned seg ≡ false) ↔ (more seg ≡ true → size seg % 16 ≡ 0)
aligned_means seg = (
  (λ e h. eqb-true (size seg % 16) 0 (not-false (eqb (size seg % 16) 0) (and_fails (more seg) (not (eqb (size seg % 16) 0)) e h))),
  (λ f. not_both (more seg) (not (eqb (size seg % 16) 0)) (λ h. ap not (eq-eqb (size seg % 16) 0 (f h)))),
)

agrees_means : (e : Option ℕ) (m : Bool) (x : ℕ) → (conflicts e m x ≡ false) ↔ Agrees e m x
agrees_means None m x = ((λ e. tt), (λ h. refl))
agrees_means (Some e) m x = (
  (λ q. let a = or_inv (ltb e x) _ q in (ltb-false e x a.0, (λ h. eqb-true x e (not-false (eqb x e) (and_fails (not m) (not (eqb x e)) a.1 (ap not h)))))),
  (λ h. neither _ _ (le-ltb e x h.0) (not_both (not m) (not (eqb x e)) (λ f. ap not (eq-eqb x e (h.1 (not-true m f)))))),
)

closes_means : (rs : List TpRange) (m : Bool) (x : ℕ) → (data_past rs m x ≡ false) ↔ Closes rs m x
closes_means rs m x = (
  (λ q h. (none_past_means rs x).0 (ltb-false x (greatest_end rs) (and_fails (not m) (ltb x (greatest_end rs)) q (ap not h)))),
  (λ f. not_both (not m) (ltb x (greatest_end rs)) (λ h. le-ltb x (greatest_end rs) ((none_past_means rs x).1 (f (not-true m h))))),
)

pub accepted_means : AcceptedMeans
unfolding judged
accepted_means p seg room = (
  (λ e.
      let a = when_accepted malformed_state (bad_state p) _ tt e in
      let b = when_accepted not_a_segment (not (is_segment seg)) _ tt a.1 in
      let c = when_accepted (segment_too_big (offset seg) (size seg) p.limit) (too_big p seg) _ tt b.1 in
      let d = when_accepted (unaligned (offset seg) (size seg)) (not_aligned seg) _ tt c.1 in
      let f = when_accepted (conflicting_end (previous p.end) (end_of seg)) (conflicts p.end (more seg) (end_of seg)) _ tt d.1 in
      let g = when_accepted (conflicting_end (greatest_end p.ranges) (end_of seg)) (data_past p.ranges (more seg) (end_of seg)) _ tt f.1 in
      let h = when_accepted (buffer_too_short (16 + end_of seg)) (too_short seg room) _ tt g.1 in
      let i = when_accepted ranges_full (too_many p seg) _ tt h.1 in
      let j = when_accepted count_full (counted_out p) _ tt i.1 in
      record {
        good = (good_means p).0 a.0;
        segment = (segment_means seg).0 (not-false (is_segment seg) b.0);
        within = ltb-false p.limit (end_of seg) c.0;
        aligned = (aligned_means seg).0 d.0;
        agrees = (agrees_means p.end (more seg) (end_of seg)).0 f.0;
        closes = (closes_means p.ranges (more seg) (end_of seg)).0 g.0;
        fits = ltb-false room (16 + end_of seg) h.0;
        few = ltb-false most (length (taken p seg).ranges) i.0;
        number_left = leb-false last_number p.count j.0;
      }),
  (λ t.
      when_pass malformed_state (bad_state p) _ ((good_means p).1 t.good)
      ∙ when_pass not_a_segment (not (is_segment seg)) _ (ap not ((segment_means seg).1 t.segment))
      ∙ when_pass (segment_too_big (offset seg) (size seg) p.limit) (too_big p seg) _ (le-ltb p.limit (end_of seg) t.within)
      ∙ when_pass (unaligned (offset seg) (size seg)) (not_aligned seg) _ ((aligned_means seg).1 t.aligned)
      ∙ when_pass (conflicting_end (previous p.end) (end_of seg)) (conflicts p.end (more seg) (end_of seg)) _ ((agrees_means p.end (more seg) (end_of seg)).1 t.agrees)
      ∙ when_pass (conflicting_end (greatest_end p.ranges) (end_of seg)) (data_past p.ranges (more seg) (end_of seg)) _ ((closes_means p.ranges (more seg) (end_of seg)).1 t.closes)
      ∙ when_pass (buffer_too_short (16 + end_of seg)) (too_short seg room) _ (le-ltb room (16 + end_of seg) t.fits)
      ∙ when_pass ranges_full (too_many p seg) _ (le-ltb most (length (taken p seg).ranges) t.few)
      ∙ when_pass count_full (counted_out p) _ (lt-leb last_number p.count t.number_left)),
)

-- ---- 37
known_means : (e : Option ℕ) → is_known e ≡ true → (x : ℕ) × (e ≡ Some x)
known_means None h = absurd (false≢true h)
known_means (Some x) h = (x, refl)

pub whole_means : (rs : List TpRange) → whole rs ≡ true → (e number : ℕ) × (rs ≡ range 0 e number ∷ [])
whole_means [] h = absurd (false≢true h)
whole_means (r ∷ []) h = (r.end, r.number, ap (λ (x : ℕ). range x r.end r.number ∷ []) (eqb-true r.start 0 h))
whole_means (r ∷ x ∷ rs) h = absurd (false≢true h)

pub complete_means : CompleteMeans
unfolding complete
complete_means p = (
  (λ e.
      let a = and_inv (not (bad_state p)) _ e in
      let b = and_inv (is_known p.end) (whole p.ranges) a.1 in
      let k = known_means p.end b.0 in
      let w = whole_means p.ranges b.1 in
      record { good = (good_means p).0 (not-true (bad_state p) a.0); end = k.0; known = k.1; held = w.0; number = w.1; one_range = w.2 }),
  (λ c. rw ((good_means p).1 c.good, ap is_known c.known, ap whole c.one_range)),
)

-- ---- what is left of an accepted segment
within_after : (m : Bool) (e : Option ℕ) (x limit : ℕ) → x ≤ limit → Within e limit → Within (cond m e (Some x)) limit
within_after true e x limit h w = w
within_after false e x limit h w = h

-- the end after it lies before neither its own end x nor that of a range
not_before_new : (m : Bool) (e : Option ℕ) (x : ℕ) → Agrees e m x → NotBefore (cond m e (Some x)) x
not_before_new true None x a = tt
not_before_new true (Some e) x a = a.0
not_before_new false e x a = le_refl x

not_before_old : (m : Bool) (e : Option ℕ) (x y : ℕ) → NotBefore e y → (m ≡ false → y ≤ x) → NotBefore (cond m e (Some x)) y
not_before_old true e x y h f = h
not_before_old false e x y h f = f refl

not_before_both : (e : Option ℕ) (x y : ℕ) → NotBefore e x → NotBefore e y → NotBefore e (max x y)
not_before_both None x y h k = tt
not_before_both (Some e) x y h k = omega arith

fine_hull : (p : State) (g r : TpRange) → Fine p g → Fine p r → Fine p (hull_of g r)
unfolding hull_of
fine_hull p g r f h = record { forth = omega arith; within = omega arith; not_past = not_before_both p.end g.end r.end f.not_past h.not_past; given = omega arith; counted = omega arith }

-- a range that was fine stays so, where a final segment does not end before it
still_fine : (p : State) (seg : List ℕ) (r : TpRange) → Fine p r → (more seg ≡ false → r.end ≤ end_of seg) → Fine (taken p seg) r
still_fine p seg r f h = record { forth = f.forth; within = f.within; not_past = not_before_old (more seg) p.end (end_of seg) r.end f.not_past h; given = f.given; counted = omega (arith, f.counted) }

all_still_fine : (p : State) (seg : List ℕ) (rs : List TpRange) → All (Fine p) rs → Closes rs (more seg) (end_of seg) → All (Fine (taken p seg)) rs
all_still_fine p seg [] a c = tt
all_still_fine p seg (r ∷ rs) a c = (still_fine p seg r a.0 (λ h. (c h).0), all_still_fine p seg rs a.1 (λ h. (c h).1))

pub taken_good : (p : State) (seg : List ℕ) (room : ℕ) → Accepted p seg room → Good (taken p seg)
taken_good p seg room t =
    let g = t.good in
    record {
      few = t.few;
      low = g.low;
      end_within = within_after (more seg) p.end (end_of seg) p.limit t.within g.end_within;
      each = all_joined (Fine (taken p seg)) (range_of (p.count + 1) seg) (fine_hull (taken p seg)) p.ranges
          (record { forth = omega arith; within = t.within; not_past = not_before_new (more seg) p.end (end_of seg) t.agrees; given = omega arith; counted = omega arith })
          (all_still_fine p seg p.ranges g.each t.closes);
      apart = (all_apart (taken p seg).ranges).0
          (joined_apart (range_of (p.count + 1) seg) p.ranges ((all_apart p.ranges).1 g.apart) (all_map (Fine p) (λ r. r.start ≤ r.end) (λ r f. f.forth) p.ranges g.each));
    }
