-- The turns of the loop over the entries, on plain values. Assumes nothing.
use mathlib.Core.Path.{◌≡◌, refl, sym, ap, ◌∙◌}
use mathlib.Core.Bool.{Bool, true, false}
use mathlib.Core.List.{List, [], ◌∷◌, ◌++◌}
use Prim.Native.Nat.{ℕ, ◌*◌, ◌-◌, ◌≤◌, ◌<◌, min}
use native.Mathlib.Omega.{arith}
use lib.ListN.{length, take, drop, get_or, length-drop}
use lib.Seq.{take_at, drop_at}
use lib.Dec.{ltb}
use borrow.Author.Tests.{lt-ltb, le-ltb, ltb-true, ltb-false}
use Rattle.numbers.specs.Refusals.{Refusal, unexpected_end}
use Rattle.numbers.specs.Answers.{Answer, accepted, refused, pass, ◌>>=◌, given, verdict}
use Rattle.numbers.specs.Bytes.{at16, at24, at32}
use Rattle.numbers.proofs.AnswerLaws.{when_hit, when_pass, given_accepted, given_refused}
use Rattle.numbers.proofs.ByteLaws.{take_tab}
use Rattle.sd_format.specs.Sequences.{all}
use Rattle.sd_format.specs.Entries.{Entry, sixteen, head, group, by_type, read_entry, placed_entry, read_entries}
use Rattle.sd_format.proofs.SequenceLaws.{all_end, all_stop, all_more, all_none, all_first}
use Rattle.sd_format.proofs.EntryLaws.{entry_long}

-- an entry in front does not change the verdict
one_more : (x : Entry) (a : Answer (List Entry)) → verdict (a >>= λ later. accepted (x ∷ later)) ≡ verdict a
unfolding ◌>>=◌ given
one_more x (accepted l) = refl
one_more x (refused r) = refl

pub entries_end : (n : ℕ) (t : List ℕ) → length t ≡ 0 → verdict (read_entries n t) ≡ pass
unfolding read_entries given
entries_end n t none = rw (all_end (placed_entry n) sixteen t none)

-- an entry is read from its own sixteen bytes
read_own : (t : List ℕ) → 16 ≤ length t → read_entry (take 16 t) ≡ read_entry t
unfolding read_entry by_type head group at16 at24 at32
read_own t long =
    ap read_entry (take_tab 16 t long) ∙ when_pass (unexpected_end 16) false (by_type (get_or t 0 0) t) refl ∙ sym (when_pass _ _ _ (le-ltb (length t) 16 long))

-- the next piece of at most sixteen bytes, and what is left behind it
module _ (n : ℕ) (x y : List ℕ) (some : 0 < length (x ++ y)) (cut : length x ≡ min 16 (length (x ++ y))) where
  own : read_entry (x ++ y) ≡ read_entry x
  unfolding read_entry
  own = go (ltb (length (x ++ y)) 16) refl
    where
      go : (short : Bool) → ltb (length (x ++ y)) 16 ≡ short → read_entry (x ++ y) ≡ read_entry x
      go true e =
          let h = ltb-true (length (x ++ y)) 16 e in
          when_hit _ _ _ e ∙ sym (when_hit _ _ _ (lt-ltb (length x) 16 (omega arith)))
      go false e =
          let h = ltb-false (length (x ++ y)) 16 e in
          sym (read_own (x ++ y) h) ∙ ap read_entry (take_at x y 16 (omega arith))

  placed_own : placed_entry n (x ++ y) ≡ placed_entry n x
  unfolding placed_entry
  placed_own = rw own

  pub entries_stop : (r : Refusal) → verdict (placed_entry n x) ≡ refused r → verdict (read_entries n (x ++ y)) ≡ refused r
  unfolding read_entries given
  entries_stop r e = rw (all_stop (placed_entry n) sixteen (x ++ y) r some (placed_own ∙ given_refused _ (placed_entry n x) r e))

  pub entries_more : verdict (placed_entry n x) ≡ pass → verdict (read_entries n (x ++ y)) ≡ verdict (read_entries n y)
  unfolding read_entries
  entries_more e =
      let (a, read, same) = given_accepted _ (placed_entry n x) _ e in
      let long : 16 ≤ length x = entry_long n x a read in
      ap verdict (all_more (placed_entry n) sixteen (x ++ y) a some (omega arith) (placed_own ∙ read))
      ∙ one_more a (all (placed_entry n) sixteen (drop 16 (x ++ y)))
      ∙ ap (λ (t : List ℕ). verdict (all (placed_entry n) sixteen t)) (drop_at x y 16 (omega arith))

-- ---- how many entries there are

placed_within : (n : ℕ) (t : List ℕ) (x : Entry) → placed_entry n t ≡ accepted x → (16 ≤ sixteen x) × (sixteen x ≤ length t)
placed_within n t x e = (omega arith, entry_long n t x e)

pub entries_count : (n : ℕ) (t : List ℕ) (es : List Entry) → read_entries n t ≡ accepted es → 16 * length es ≡ length t
unfolding read_entries
entries_count n t [] e = sym (all_none (placed_entry n) sixteen 16 (omega arith) (placed_within n) t e)
entries_count n t (x ∷ es) e =
    let (some, first, rest) = all_first (placed_entry n) sixteen 16 (omega arith) (placed_within n) t x es e in
    let ih : 16 * length es ≡ length t - 16 = rw length-drop at (entries_count n (drop 16 t) es rest) in
    let long : 16 ≤ length t = entry_long n t x first in
    omega arith
