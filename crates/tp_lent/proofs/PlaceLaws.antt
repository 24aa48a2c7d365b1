-- Laws of ranges where they stand in the words: the words in front of a place and from it on, and a joined range placed among them.
-- Assumes nothing.
use Prim.Native.Nat.{ℕ, zero, suc, ◌+◌, ◌*◌, ◌-◌, ◌≤◌, ◌<◌}
use mathlib.Core.Path.{◌≡◌, refl, sym, ap, ap₂, ◌∙◌}
use mathlib.Core.Bool.{Bool, true, false}
use mathlib.Core.List.{List, [], ◌∷◌, ◌++◌, append_assoc}
use mathlib.Core.Logic.{◌⊎◌, ⊎_elim}
use native.Mathlib.Numerals.{add-one}
use native.Mathlib.Omega.{arith}
use borrow.Author.Tests.{ltb-true, ltb-false}
use lib.Dec.{ltb}
use lib.ListN.{length, take, drop, get_or, set, length-append, length-drop, take-append-drop, get_or-append}
use lib.Seq.{paste, get_or-take, take_at, drop_at, get_or_at, set-get_or, take-suc, length-take-le, length-slice, drop-append-le, drop-drop, sets-eq}
use Rattle.tp_machine.specs.declared.TpRange.{TpRange}
use Rattle.tp_machine.specs.Machine.{most}
use Rattle.tp_machine.specs.Segments.{pasted}
use Rattle.tp_range.specs.Joining.{none, placed}
use Rattle.tp_range.proofs.Laws.{placed_over}
use Rattle.tp_words.specs.Words.{size, range_at, ranges_in, flat}
use Rattle.tp_words.proofs.WordLaws.{in_length, flat_length, flat_append, laid, laid_starts, laid_more, laid_ends}
use Rattle.tp_lent.specs.Lent.{spread, put_range}

-- ---- words copied by way of an array
pub paste_part : (ws part : List ℕ) (to from n : ℕ) → from + n ≤ length ws → take n part ≡ take n (drop from ws) → paste ws to part n ≡ pasted ws to (take n (drop from ws))
unfolding pasted
paste_part ws part to from n h e =
    let long : length (take n (drop from ws)) ≡ n = length-take-le n (drop from ws) (rw length-drop (omega arith)) in
    ap₂ {C = List ℕ} (λ (l : List ℕ) (k : ℕ). take to ws ++ l ++ drop (to + k) ws) e (sym long)
    ∙ append_assoc (take to ws) (take n (drop from ws)) (drop (to + length (take n (drop from ws))) ws)

-- ---- the range at place i is the words' own
pub ranges_at : (ws : List ℕ) (n i : ℕ) → i < n → get_or (ranges_in ws n) i none ≡ range_at ws i
unfolding ranges_in
ranges_at ws zero i h = absurd (omega arith)
ranges_at ws (suc n) i h = go (λ l. ranges_at ws n i l) (ltb i n) refl
  where
    go : (i < n → get_or (ranges_in ws n) i none ≡ range_at ws i) → (b : Bool) → ltb i n ≡ b → get_or (ranges_in ws n ++ (range_at ws n ∷ [])) i none ≡ range_at ws i
    go less true e =
        let l : i < n = ltb-true i n e in
        get_or-append (ranges_in ws n) (range_at ws n ∷ []) none i (omega (arith, in_length ws n)) ∙ less l
    go less false e =
        let q : i ≡ n = omega (arith, ltb-false i n e) in
        get_or_at (ranges_in ws n) (range_at ws n) [] none i (in_length ws n ∙ sym q) ∙ ap (range_at ws) (sym q)

module _ (ws : List ℕ) (enough : size ≤ length ws) where
  abbrev array : List TpRange
  array = ranges_in ws most

  -- ---- words hold the array of their ranges
  self : (i : ℕ) → i ≤ most → ws ≡ laid ws array i
  unfolding flat
  self zero h = laid_starts ws array
  self (suc i) h =
      let n : ℕ = 5 + 3 * i in
      let same : put_range ws i (range_at ws i) ≡ ws =
      ap (λ (l : List ℕ). set (set l (n + 1) (get_or ws (n + 1) 0)) (n + 2) (get_or ws (n + 2) 0)) (set-get_or ws n 0)
      ∙ ap (λ (l : List ℕ). set l (n + 2) (get_or ws (n + 2) 0)) (set-get_or ws (n + 1) 0)
      ∙ set-get_or ws (n + 2) 0
      in
      let one : flat (get_or array i none ∷ []) ≡ get_or ws n 0 ∷ get_or ws (n + 1) 0 ∷ get_or ws (n + 2) 0 ∷ [] = ap (λ (r : TpRange). flat (r ∷ [])) (ranges_at ws most i h) in
      sym same
      ∙ laid_more ws array (omega (arith, in_length ws most)) i (get_or ws n 0) (get_or ws (n + 1) 0) (get_or ws (n + 2) 0) (omega (arith, in_length ws most)) one ws (self i (omega arith))
      ∙ ap (laid ws array) (add-one i)

  pub spread_self : ws ≡ spread ws array
  spread_self = laid_ends ws array ws most (in_length ws most) (self most (omega arith))

  -- ---- the first word, and those behind the first five, of words with another array
  pub spread_first : (rs : List TpRange) → get_or (spread ws rs) 0 0 ≡ get_or ws 0 0
  spread_first rs = get_or-append (take 5 ws) (flat rs ++ drop size ws) 0 0 (omega (arith, length-take-le 5 ws (omega arith))) ∙ get_or-take 5 ws 0 0 (omega arith)

  pub spread_behind : (rs : List TpRange) → drop 5 (spread ws rs) ≡ flat rs ++ drop size ws
  spread_behind rs = drop_at (take 5 ws) (flat rs ++ drop size ws) 5 (length-take-le 5 ws (omega arith))

  pub spread_length : (rs : List TpRange) → length rs ≡ most → length (spread ws rs) ≡ length ws
  spread_length rs h =
      omega (arith, length-append (take 5 ws) (flat rs ++ drop size ws), length-append (flat rs) (drop size ws), flat_length rs, length-drop size ws, length-take-le 5 ws (omega arith))

  -- ---- in front of place i, and from it on
  abbrev front : ℕ → List ℕ
  front i = take 5 ws ++ flat (take i array)

  abbrev behind : ℕ → List ℕ
  behind i = flat (drop i array) ++ drop size ws

  front_length : (i : ℕ) → i ≤ most → length (front i) ≡ 5 + 3 * i
  front_length i h = simp (length-append, flat_length, length-take-le 5 ws (omega arith), length-take-le i array (omega (arith, in_length ws most)))

  split : (i : ℕ) → ws ≡ front i ++ behind i
  split i =
      spread_self
      ∙ ap (λ (l : List TpRange). take 5 ws ++ (flat l ++ drop size ws)) (sym (take-append-drop i array))
      ∙ ap (λ (l : List ℕ). take 5 ws ++ (l ++ drop size ws)) (flat_append (take i array) (drop i array))
      ∙ ap (◌++◌ (take 5 ws)) (append_assoc (flat (take i array)) (flat (drop i array)) (drop size ws))
      ∙ sym (append_assoc (take 5 ws) (flat (take i array)) (behind i))

  take_front : (i : ℕ) → i ≤ most → take (5 + 3 * i) ws ≡ front i
  take_front i h = ap (take (5 + 3 * i)) (split i) ∙ take_at (front i) (behind i) (5 + 3 * i) (front_length i h)

  drop_behind : (i : ℕ) → i ≤ most → drop (5 + 3 * i) ws ≡ behind i
  drop_behind i h = ap (drop (5 + 3 * i)) (split i) ∙ drop_at (front i) (behind i) (5 + 3 * i) (front_length i h)

  -- ---- those behind a joined range, moved up to it, and that range in its place
  module _
      (count before behind' : ℕ) (g : TpRange) (order : before ≤ behind') (within : behind' ≤ count) (few : count ≤ most)
      (room : (before < behind') ⊎ (count < most)) where
    abbrev rest : List TpRange
    rest = drop behind' (take count array)

    abbrev all : List TpRange
    all = take before array ++ (g ∷ rest)

    rest_length : length rest ≡ count - behind'
    rest_length = length-slice behind' count array (omega (arith, in_length ws most))

    pub long : before + 1 + (count - behind') ≤ most
    long = ⊎_elim (λ h. omega arith) (λ h. omega arith) room

    pub all_length : length all ≡ before + 1 + (count - behind')
    all_length =
        omega (arith, length-append (take before array) (g ∷ rest), length-take-le before array (omega (arith, in_length ws most)), rest_length)

    -- the words that are moved are those of the ranges behind
    rest_behind : drop behind' array ≡ rest ++ drop count array
    rest_behind =
        ap (drop behind') (sym (take-append-drop count array))
        ∙ drop-append-le behind' (take count array) (drop count array) (omega (arith, length-take-le count array (omega (arith, in_length ws most))))

    pub moved : take (3 * (count - behind')) (drop (5 + 3 * behind') ws) ≡ flat rest
    moved =
        ap (take (3 * (count - behind'))) (drop_behind behind' (omega arith) ∙ ap (λ (l : List TpRange). flat l ++ drop size ws) rest_behind
        ∙ ap (λ (l : List ℕ). l ++ drop size ws) (flat_append rest (drop count array)) ∙ append_assoc (flat rest) (flat (drop count array)) (drop size ws))
        ∙ take_at (flat rest) (flat (drop count array) ++ drop size ws) (3 * (count - behind')) (flat_length rest ∙ ap (◌*◌ 3) rest_length)

    -- they are there already where one range alone is touched
    pub there : behind' ≡ before + 1 → ws ≡ pasted ws (5 + 3 * (before + 1)) (flat rest)
    unfolding pasted
    there e =
        let at : ℕ = 5 + 3 * (before + 1) in
        let same : flat rest ≡ take (3 * (count - behind')) (drop at ws) = sym moved ∙ ap (λ (n : ℕ). take (3 * (count - behind')) (drop (5 + 3 * n) ws)) e in
        let many : length (flat rest) ≡ 3 * (count - behind') = flat_length rest ∙ ap (◌*◌ 3) rest_length in
        sym (take-append-drop at ws)
        ∙ ap (◌++◌ (take at ws)) (sym (take-append-drop (3 * (count - behind')) (drop at ws)) ∙ ap₂ {C = List ℕ} ◌++◌ (sym same) (drop-drop (3 * (count - behind')) at ws ∙ ap (λ (n : ℕ). drop (at + n) ws) (sym many)))

    -- the words after that: up to the place of the joined range, its three words whatever they are, those behind, and the others as they were
    abbrev others : List ℕ
    others = flat rest ++ (flat (drop (before + 1 + (count - behind')) array) ++ drop size ws)

    next_front : front (before + 1) ≡ front before ++ flat (get_or array before none ∷ [])
    next_front =
        ap (λ (n : ℕ). front n) (add-one before)
        ∙ ap (λ (l : List TpRange). take 5 ws ++ flat l) (take-suc array before none (omega (arith, in_length ws most, long)))
        ∙ ap (◌++◌ (take 5 ws)) (flat_append (take before array) (get_or array before none ∷ []))
        ∙ sym (append_assoc (take 5 ws) (flat (take before array)) (flat (get_or array before none ∷ [])))

    shifted : pasted ws (5 + 3 * (before + 1)) (flat rest) ≡ front (before + 1) ++ others
    unfolding pasted
    shifted =
        let at : 5 + 3 * (before + 1) + length (flat rest) ≡ 5 + 3 * (before + 1 + (count - behind')) = omega (arith, flat_length rest, rest_length) in
        ap₂ {C = List ℕ} (λ (a b : List ℕ). a ++ (flat rest ++ b)) (take_front (before + 1) (omega (arith, long)))
        (ap (λ (n : ℕ). drop n ws) at ∙ drop_behind (before + 1 + (count - behind')) long)

    pub put_placed : (l : List ℕ) → l ≡ pasted ws (5 + 3 * (before + 1)) (flat rest) → put_range l before g ≡ spread ws (placed array all)
    unfolding flat
    put_placed l e =
        let n : ℕ = 5 + 3 * before in
        let second : n + 1 ≡ suc n = omega arith in
        let third : n + 2 ≡ suc (suc n) = omega arith in
        let is : l ≡ (front before ++ flat (get_or array before none ∷ [])) ++ others = e ∙ shifted ∙ ap (λ (a : List ℕ). a ++ others) next_front in
        let here : length (front before) ≡ n = front_length before (omega arith) in
        let next : length (front before ++ flat (get_or array before none ∷ [])) ≡ n + 3 =
        length-append (front before) (flat (get_or array before none ∷ [])) ∙ ap (λ (k : ℕ). k + 3) here in
        let enough : n + 3 ≤ length l = omega (arith, ap length is, length-append (front before ++ flat (get_or array before none ∷ [])) others, next) in
        let ahead : take n l ≡ front before = ap (take n) (is ∙ append_assoc (front before) (flat (get_or array before none ∷ [])) others) ∙ take_at (front before) (flat (get_or array before none ∷ []) ++ others) n here in
        let after : drop (n + 3) l ≡ others = ap (drop (n + 3)) is ∙ drop_at (front before ++ flat (get_or array before none ∷ [])) others (n + 3) next in
        ap₂ {C = List ℕ} (λ (k m : ℕ). set (set (set l n g.start) k g.end) m g.number) second third
        ∙ sets-eq (g.start ∷ g.end ∷ g.number ∷ []) l n enough
        ∙ ap₂ {C = List ℕ} (λ (a b : List ℕ). (a ++ flat (g ∷ [])) ++ b) ahead after
        ∙ laid_all
      where
        laid_all : (front before ++ flat (g ∷ [])) ++ others ≡ spread ws (placed array all)
        laid_all =
            let tail : List TpRange = drop (before + 1 + (count - behind')) array in
            append_assoc (front before) (flat (g ∷ [])) others
            ∙ append_assoc (take 5 ws) (flat (take before array)) (flat (g ∷ []) ++ others)
            ∙ ap (◌++◌ (take 5 ws)) (ap (λ (l : List ℕ). flat (take before array) ++ (flat (g ∷ []) ++ l)) (sym (append_assoc (flat rest) (flat tail) (drop size ws)) ∙ ap (λ (l : List ℕ). l ++ drop size ws) (sym (flat_append rest tail)))
            ∙ ap (◌++◌ (flat (take before array))) (sym (ap (λ (l : List ℕ). l ++ drop size ws) (flat_append (g ∷ []) (rest ++ tail)) ∙ append_assoc (flat (g ∷ [])) (flat (rest ++ tail)) (drop size ws)))
            ∙ sym (ap (λ (l : List ℕ). l ++ drop size ws) (flat_append (take before array) (g ∷ (rest ++ tail))) ∙ append_assoc (flat (take before array)) (flat (g ∷ (rest ++ tail))) (drop size ws)))
            ∙ ap (spread ws) (sym (placed_over array all (omega (arith, all_length, in_length ws most, long)) ∙ ap (λ (n : ℕ). all ++ drop n array) all_length ∙ append_assoc (take before array) (g ∷ rest) tail))
