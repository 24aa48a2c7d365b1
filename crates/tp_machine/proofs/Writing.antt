-- A buffer with a part replaced, and after a segment, place by place. Assumes nothing.
use Prim.Native.Nat.{ℕ, ◌+◌, ◌-◌, ◌≤◌, ◌<◌}
use mathlib.Core.Path.{◌≡◌, refl, sym, ap, ◌∙◌}
use mathlib.Core.Bool.{Bool, true, false, ◌&&◌, cond}
use mathlib.Core.List.{List, ◌++◌}
use mathlib.Core.Logic.{◌⊎◌, inl, inr}
use native.Mathlib.Omega.{arith}
use borrow.Author.Tests.{leb-true, leb-false, ltb-true, ltb-false}
use lib.Dec.{leb, ltb}
use lib.ListN.{length, take, drop, get_or, length-append, length-take, length-drop, length-set, get_or-append}
use lib.Seq.{length-take-le, get_or-append-add, get_or-take, get_or-drop, get_or-set_same, get_or-set_other, take-add, ext_get_or}
use Rattle.tp_machine.specs.declared.TpRange.{TpRange}
use Rattle.tp_machine.specs.Segments.{offset, end_of, payload, without_tp, header, pasted, written}
use Rattle.tp_machine.specs.Meaning.{Cleared, range_of}
use Rattle.tp_machine.specs.Runs.{holds, spans, brought, heads}
use Rattle.tp_machine.specs.Theorems.{HeaderMeans}
use Rattle.tp_machine.proofs.Joining.{held}

-- ---- a part replaced
getD_behind : (xs ys : List ℕ) (n i : ℕ) → length xs ≡ n → get_or (xs ++ ys) (n + i) 0 ≡ get_or ys i 0
getD_behind xs ys n i e = ap (λ (m : ℕ). get_or (xs ++ ys) (m + i) 0) (sym e) ∙ get_or-append-add xs ys i 0

module _ (d : List ℕ) (at : ℕ) (s : List ℕ) (room : at + length s ≤ length d) where
  front : length (take at d) ≡ at
  front = length-take-le at d (omega arith)

  pub pasted_length : length (pasted d at s) ≡ length d
  unfolding pasted
  pasted_length = simp (length-append, length-take, length-drop) (omega arith)

  pub pasted_in : (i : ℕ) → at ≤ i → i < at + length s → get_or (pasted d at s) i 0 ≡ get_or s (i - at) 0
  unfolding pasted
  pasted_in i p q =
      let z : i ≡ at + (i - at) = omega arith in
      ap (λ (m : ℕ). get_or (take at d ++ (s ++ drop (at + length s) d)) m 0) z ∙ getD_behind (take at d) (s ++ drop (at + length s) d) at (i - at) front
      ∙ get_or-append s (drop (at + length s) d) 0 (i - at) (omega arith)

  pub pasted_out : (i : ℕ) → (i < at) ⊎ (at + length s ≤ i) → get_or (pasted d at s) i 0 ≡ get_or d i 0
  unfolding pasted
  pasted_out i (inl h) = get_or-append (take at d) (s ++ drop (at + length s) d) 0 i (omega (arith, front)) ∙ get_or-take at d i 0 h
  pasted_out i (inr h) =
      let k : ℕ = i - (at + length s) in
      let a : i ≡ at + (length s + k) = omega arith in
      let b : (at + length s) + k ≡ i = omega arith in
      ap (λ (m : ℕ). get_or (take at d ++ (s ++ drop (at + length s) d)) m 0) a ∙ getD_behind (take at d) (s ++ drop (at + length s) d) at (length s + k) front
      ∙ getD_behind s (drop (at + length s) d) (length s) k refl ∙ get_or-drop (at + length s) d k 0 ∙ ap (λ (m : ℕ). get_or d m 0) b

-- ---- a part replaced within the first n, and the two sides of n
module _ (d : List ℕ) (at : ℕ) (s : List ℕ) (n : ℕ) (inner : at + length s ≤ n) (room : n ≤ length d) where
  first_n : length (take n d) ≡ n
  first_n = length-take-le n d room

  pub take_pasted : take n (pasted d at s) ≡ pasted (take n d) at s
  take_pasted =
      let a : length (take n (pasted d at s)) ≡ n = length-take-le n (pasted d at s) (omega (arith, pasted_length d at s (omega arith))) in
      let b : length (pasted (take n d) at s) ≡ n = pasted_length (take n d) at s (omega (arith, first_n)) ∙ first_n in
      ext_get_or 0 (take n (pasted d at s)) (pasted (take n d) at s) (a ∙ sym b) (λ i h. get_or-take n (pasted d at s) i 0 (omega arith) ∙ go i (omega arith) (leb at i) refl (ltb i (at + length s)) refl)
    where
      out : (i : ℕ) → i < n → (i < at) ⊎ (at + length s ≤ i) → get_or (pasted d at s) i 0 ≡ get_or (pasted (take n d) at s) i 0
      out i h o = pasted_out d at s (omega arith) i o ∙ sym (get_or-take n d i 0 h) ∙ sym (pasted_out (take n d) at s (omega (arith, first_n)) i o)

      go : (i : ℕ) → i < n → (t : Bool) → leb at i ≡ t → (u : Bool) → ltb i (at + length s) ≡ u → get_or (pasted d at s) i 0 ≡ get_or (pasted (take n d) at s) i 0
      go i h false p u q = out i h (inl (leb-false at i p))
      go i h true p false q = out i h (inr (ltb-false i (at + length s) q))
      go i h true p true q =
          let l : at ≤ i = omega (arith, leb-true at i p) in
          let r : i < at + length s = ltb-true i (at + length s) q in
          pasted_in d at s (omega arith) i l r ∙ sym (pasted_in (take n d) at s (omega (arith, first_n)) i l r)

  pub drop_pasted : drop n (pasted d at s) ≡ drop n d
  drop_pasted =
      let l : length (pasted d at s) ≡ length d = pasted_length d at s (omega arith) in
      ext_get_or 0 (drop n (pasted d at s)) (drop n d) (length-drop n (pasted d at s) ∙ ap (λ (m : ℕ). m - n) l ∙ sym (length-drop n d))
      (λ i _. get_or-drop n (pasted d at s) i 0 ∙ pasted_out d at s (omega arith) (n + i) (inr (omega arith)) ∙ sym (get_or-drop n d i 0))

  pub take_more_pasted : (e : ℕ) → take (n + e) (pasted d at s) ≡ pasted (take n d) at s ++ take e (drop n d)
  take_more_pasted e = take-add n e (pasted d at s) ∙ rw (take_pasted, drop_pasted)

-- ---- a segment's bytes in the buffer
tp_cleared : (t : ℕ) → Cleared t (without_tp t)
unfolding without_tp
tp_cleared t = omega arith

pub header_means : HeaderMeans
unfolding header
header_means s long =
    let n : length (take 16 s) ≡ 16 = length-take-le 16 s (omega arith) in
    record {
      size = length-set (take 16 s) 14 (without_tp (get_or s 14 0)) ∙ n;
      type = rw (get_or-set_same (take 16 s) 14 (without_tp (get_or s 14 0)) 0 (omega arith)) (tp_cleared (get_or s 14 0));
      others = λ i h ne. get_or-set_other (take 16 s) 14 i (without_tp (get_or s 14 0)) 0 ne ∙ get_or-take 16 s i 0 h;
    }

pub header_length : (s : List ℕ) → 20 ≤ length s → length (header s) ≡ 16
header_length s long = (header_means s long).size

missed : (x : ℕ) (r : TpRange) → holds x r ≡ false → (x < r.start) ⊎ (r.end ≤ x)
unfolding holds
missed x r = go (leb r.start x) refl
  where
    go : (t : Bool) → leb r.start x ≡ t → (t && ltb x r.end) ≡ false → (x < r.start) ⊎ (r.end ≤ x)
    go true p e = inr (ltb-false x r.end e)
    go false p e = inl (leb-false r.start x p)

module _ (buf s : List ℕ) (long : 20 ≤ length s) (fits : 16 + end_of s ≤ length buf) where
  -- the buffer with the header, where it is brought
  under : Bool → List ℕ
  under t = cond t (pasted buf 0 (header s)) buf

  under_length : (t : Bool) → length (under t) ≡ length buf
  unfolding under
  under_length true = pasted_length buf 0 (header s) (omega (arith, header_length s long))
  under_length false = refl

  under_head : (t : Bool) (i : ℕ) → i < 16 → get_or (under t) i 0 ≡ cond t (get_or (header s) i 0) (get_or buf i 0)
  unfolding under
  under_head true i h =
      let z : i - 0 ≡ i = omega arith in
      pasted_in buf 0 (header s) (omega (arith, header_length s long)) i (omega arith) (omega (arith, header_length s long)) ∙ ap (λ (m : ℕ). get_or (header s) m 0) z
  under_head false i h = refl

  under_rest : (t : Bool) (i : ℕ) → 16 ≤ i → get_or (under t) i 0 ≡ get_or buf i 0
  unfolding under
  under_rest true i h = pasted_out buf 0 (header s) (omega (arith, header_length s long)) i (inr (omega (arith, header_length s long)))
  under_rest false i h = refl

  room : 16 + offset s + length (payload s) ≤ length (under (heads s))
  room = omega (arith, under_length (heads s))

  pub written_length : length (written buf s) ≡ length buf
  unfolding written under
  written_length = pasted_length (under (heads s)) (16 + offset s) (payload s) room ∙ under_length (heads s)

  -- a place of the header
  pub written_head : (i : ℕ) → i < 16 → get_or (written buf s) i 0 ≡ cond (heads s) (get_or (header s) i 0) (get_or buf i 0)
  unfolding written under
  written_head i h = pasted_out (under (heads s)) (16 + offset s) (payload s) room i (inl (omega arith)) ∙ under_head (heads s) i h

  -- a place of the payload
  pub written_at : (x : ℕ) → get_or (written buf s) (16 + x) 0 ≡ cond (spans x s) (brought x s) (get_or buf (16 + x) 0)
  unfolding written under holds
  written_at x = go (spans x s) refl
    where
      behind : (x < offset s) ⊎ (end_of s ≤ x) → (16 + x < 16 + offset s) ⊎ (16 + offset s + length (payload s) ≤ 16 + x)
      behind (inl h) = inl (omega arith)
      behind (inr h) = inr (omega arith)

      go : (t : Bool) → spans x s ≡ t → get_or (written buf s) (16 + x) 0 ≡ cond t (brought x s) (get_or buf (16 + x) 0)
      go true e =
          let k = held x (range_of 0 s) e in
          let z : 16 + x - (16 + offset s) ≡ x - offset s = omega arith in
          pasted_in (under (heads s)) (16 + offset s) (payload s) room (16 + x) (omega arith) (omega arith) ∙ ap (λ (m : ℕ). get_or (payload s) m 0) z
      go false e = pasted_out (under (heads s)) (16 + offset s) (payload s) room (16 + x) (behind (missed x (range_of 0 s) e)) ∙ under_rest (heads s) (16 + x) (omega arith)
