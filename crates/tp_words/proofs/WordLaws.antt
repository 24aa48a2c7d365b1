-- Laws of a state's words: ranges read one after the other, and ranges written one after the other. Assumes nothing.
use Prim.Native.Nat.{ℕ, zero, suc, ◌+◌, ◌*◌, ◌≤◌, ◌<◌}
use mathlib.Core.Path.{◌≡◌, refl, sym, ap, ap₂, ◌∙◌}
use mathlib.Core.List.{List, [], ◌∷◌, ◌++◌, append_assoc, append-nil}
use native.Mathlib.Numerals.{add-one}
use native.Mathlib.Omega.{arith}
use lib.ListN.{length, take, drop, get_or, set, length-append, length-drop, take-append-drop, drop_of_length-le}
use lib.Seq.{drop-cons, drop-drop, drop-append-add, take-suc, take_all, take_at, set_at, append_snoc, length-take-le, sets-eq}
use Rattle.tp_machine.specs.declared.TpRange.{TpRange}
use Rattle.tp_range.specs.Joining.{none}
use Rattle.tp_words.specs.Words.{range_at, ranges_in, flat}

-- ---- ranges read one after the other into an array

pub in_length : (ws : List ℕ) (n : ℕ) → length (ranges_in ws n) ≡ n
unfolding ranges_in
in_length ws zero = refl
in_length ws (suc n) = simp length-append (omega (arith, in_length ws n))

-- the array with the first i of them in front
abbrev pub read_in : List ℕ → List TpRange → ℕ → List TpRange
read_in ws rs i = ranges_in ws i ++ drop i rs

pub read_starts : (ws : List ℕ) (rs : List TpRange) → rs ≡ read_in ws rs 0
unfolding ranges_in
read_starts ws rs = refl

pub read_more : (ws : List ℕ) (rs l : List TpRange) (i : ℕ) → i < length rs → l ≡ read_in ws rs i → set l i (range_at ws i) ≡ read_in ws rs (i + 1)
unfolding ranges_in
read_more ws rs l i h e =
    ap (λ (x : List TpRange). set x i (range_at ws i)) (e ∙ ap (λ (t : List TpRange). ranges_in ws i ++ t) (drop-cons rs i none h))
    ∙ set_at (ranges_in ws i) (get_or rs i none) (drop (suc i) rs) (range_at ws i) i (in_length ws i)
    ∙ sym (append_snoc (ranges_in ws i) (range_at ws i) (drop (suc i) rs))
    ∙ ap (λ (n : ℕ). ranges_in ws n ++ drop n rs) (sym (add-one i))

pub read_ends : (ws : List ℕ) (rs l : List TpRange) (n : ℕ) → length rs ≡ n → l ≡ read_in ws rs n → l ≡ ranges_in ws n
read_ends ws rs l n h e =
    let none_left : drop n rs ≡ [] = drop_of_length-le rs {i = n} (omega arith) in
    e ∙ ap (λ (t : List TpRange). ranges_in ws n ++ t) none_left ∙ append-nil (ranges_in ws n)

-- ---- ranges written one after the other into words

pub flat_length : (rs : List TpRange) → length (flat rs) ≡ 3 * length rs
unfolding flat
flat_length [] = refl
flat_length (r ∷ rs) = omega (arith, flat_length rs)

pub flat_append : (rs qs : List TpRange) → flat (rs ++ qs) ≡ flat rs ++ flat qs
unfolding flat
flat_append [] qs = refl
flat_append (r ∷ rs) qs = ap (λ (l : List ℕ). flat (r ∷ []) ++ l) (flat_append rs qs)

-- the words with the first i ranges behind the first five
abbrev pub front : List ℕ → List TpRange → ℕ → List ℕ
front ws rs i = take 5 ws ++ flat (take i rs)

abbrev pub laid : List ℕ → List TpRange → ℕ → List ℕ
laid ws rs i = front ws rs i ++ drop (5 + 3 * i) ws

module _ (ws : List ℕ) (rs : List TpRange) (room : 5 + 3 * length rs ≤ length ws) where
  front_length : (i : ℕ) → i ≤ length rs → length (front ws rs i) ≡ 5 + 3 * i
  front_length i h = simp (length-append, flat_length, length-take-le 5 ws (omega arith), length-take-le i rs h)

  pub laid_length : (i : ℕ) → i ≤ length rs → length (laid ws rs i) ≡ length ws
  laid_length i h = omega (arith, length-append (front ws rs i) (drop (5 + 3 * i) ws), front_length i h, length-drop (5 + 3 * i) ws)

  -- one range more, of which the words are x, y and z
  module _ (i x y z : ℕ) (h : i < length rs) (three : flat (get_or rs i none ∷ []) ≡ x ∷ y ∷ z ∷ []) where
    front_more : front ws rs (i + 1) ≡ front ws rs i ++ (x ∷ y ∷ z ∷ [])
    front_more =
        ap (λ (n : ℕ). front ws rs n) (add-one i)
        ∙ ap (λ (l : List TpRange). take 5 ws ++ flat l) (take-suc rs i none h)
        ∙ ap (λ (l : List ℕ). take 5 ws ++ l) (flat_append (take i rs) (get_or rs i none ∷ []) ∙ ap (λ (l : List ℕ). flat (take i rs) ++ l) three)
        ∙ sym (append_assoc (take 5 ws) (flat (take i rs)) (x ∷ y ∷ z ∷ []))

    -- three stores one behind the other replace three words
    pub laid_more : (l : List ℕ) → l ≡ laid ws rs i → set (set (set l (5 + 3 * i) x) (5 + 3 * i + 1) y) (5 + 3 * i + 2) z ≡ laid ws rs (i + 1)
    laid_more l e =
        let p : List ℕ = front ws rs i in
        let n : ℕ = 5 + 3 * i in
        let len : length p ≡ n = front_length i (omega arith) in
        let second : n + 1 ≡ suc n = omega arith in
        let third : n + 2 ≡ suc (suc n) = omega arith in
        let next : n + 3 ≡ 5 + 3 * (i + 1) = omega arith in
        let before : take n l ≡ p = ap (take n) e ∙ take_at p (drop n ws) n len in
        let behind : drop (n + 3) l ≡ drop (5 + 3 * (i + 1)) ws =
        ap (drop (n + 3)) e ∙ ap (λ (m : ℕ). drop (m + 3) (p ++ drop n ws)) (sym len) ∙ drop-append-add p (drop n ws) 3 ∙ drop-drop 3 n ws ∙ ap (λ (m : ℕ). drop m ws) next in
        ap₂ {C = List ℕ} (λ (k m : ℕ). set (set (set l n x) k y) m z) second third
        ∙ sets-eq (x ∷ y ∷ z ∷ []) l n (omega (arith, ap length e, laid_length i (omega arith)))
        ∙ ap₂ {C = List ℕ} (λ (t d : List ℕ). (t ++ (x ∷ y ∷ z ∷ [])) ++ d) before behind
        ∙ ap (λ (t : List ℕ). t ++ drop (5 + 3 * (i + 1)) ws) (sym front_more)

pub laid_starts : (ws : List ℕ) (rs : List TpRange) → ws ≡ laid ws rs 0
unfolding flat
laid_starts ws rs = sym (ap (λ (l : List ℕ). l ++ drop 5 ws) (append-nil (take 5 ws)) ∙ take-append-drop 5 ws)

pub laid_ends : (ws : List ℕ) (rs : List TpRange) (l : List ℕ) (i : ℕ) → length rs ≡ i → l ≡ laid ws rs i → l ≡ take 5 ws ++ (flat rs ++ drop (5 + 3 * i) ws)
laid_ends ws rs l i h e =
    e
    ∙ ap (λ (qs : List TpRange). (take 5 ws ++ flat qs) ++ drop (5 + 3 * i) ws) (take_all i rs (omega arith))
    ∙ append_assoc (take 5 ws) (flat rs) (drop (5 + 3 * i) ws)
