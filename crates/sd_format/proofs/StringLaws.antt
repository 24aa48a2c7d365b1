-- Laws of the configuration string: what is left of a string at a place, the key rule in the layout's words, and that the accepted strings
-- are exactly the good items laid out and closed. Assumes nothing.
use Prim.Native.Nat.{ℕ, zero, suc, ◌+◌, ◌≤◌, ◌<◌}
use native.Mathlib.Nat.{add-zero}
use native.Mathlib.Numerals.{add-one}
use native.Mathlib.Omega.{arith}
use mathlib.Core.Path.{◌≡◌, refl, sym, ap, ap₂, subst, ◌∙◌}
use mathlib.Core.Logic.{◌↔◌, ◌⊎◌, inl, inr, ⊎_elim}
use mathlib.Core.Bool.{Bool, true, false, cond, not, ◌&&◌}
use mathlib.Core.List.{List, [], ◌∷◌, ◌++◌}
use lib.Dec.{eqb, leb, ltb}
use lib.ListN.{length, get_or, take, drop, length-append, take-append-drop, drop_of_length-le}
use lib.Seq.{drop-cons, drop-drop, length-take-le, take-append_seam, drop-append_seam}
use borrow.Author.Tests.{ltb-false, leb-true, eqb-true, eqb-false, le-ltb, le-leb, eq-eqb, ne_eqb, not-false}
use Rattle.numbers.specs.Refusals.{Refusal, missing_terminator, item_too_long, trailing_data, empty_key, invalid_key_byte, only_whitespace}
use Rattle.numbers.specs.Answers.{Answer, accepted, refused, Verdict, pass, ◌>>=◌, ◌>>◌, refuse◌when◌else◌, given, verdict, All}
use Rattle.numbers.proofs.AnswerLaws.{when_hit, when_pass, when_accepted, not_refused, accepted_inj, then_accepted, then_pass, bind_accepted, bind_pass, test_accepted, all_map, all_both}
use Rattle.numbers.proofs.TestLaws.{and_inv}
use Rattle.sd_format.specs.Strings.{key_of, judge_bytes, all_spaces, judge_key, judge_item, closed, items_from, read_string}
use Rattle.sd_format.specs.Layout.{GoodItem, lay_items}
use Rattle.sd_format.specs.Demand3.{StringsExact}

-- ---- the items from a place on

-- what is passed over is what is dropped
pub passed : (at k : ℕ) (l : List ℕ) → items_from at k l ≡ items_from (at + k) 0 (drop k l)
unfolding items_from
passed at zero [] = rw (add-zero at, add-zero at) refl
passed at zero (b ∷ l) = rw add-zero refl
passed at (suc k) [] = rw add-zero refl
passed at (suc k) (b ∷ l) = passed (at + 1) k l ∙ ap (λ (n : ℕ). items_from n 0 (drop k l)) (omega arith)

pub at_terminator : (at : ℕ) (rest : List ℕ) → items_from at 0 (0 ∷ rest) ≡ closed at rest
unfolding items_from
at_terminator at rest = refl

pub closed_last : (at : ℕ) (rest : List ℕ) → length rest ≡ 0 → closed at rest ≡ accepted []
unfolding closed
closed_last at rest last = when_pass (trailing_data at) (not (eqb (length rest) 0)) (accepted []) (ap not (eq-eqb (length rest) 0 last))

pub closed_trailing : (at : ℕ) (rest : List ℕ) → (length rest ≡ 0 → ⊥) → closed at rest ≡ refused (trailing_data at)
unfolding closed
closed_trailing at rest more = when_hit (trailing_data at) (not (eqb (length rest) 0)) (accepted []) (ap not (ne_eqb (length rest) 0 more))

pub closed_nothing : (at : ℕ) (rest : List ℕ) (items : List (List ℕ)) → closed at rest ≡ accepted items → items ≡ []
unfolding closed
closed_nothing at rest items e = sym (accepted_inj [] items (when_accepted (trailing_data at) (not (eqb (length rest) 0)) (accepted []) items e).1)

pub at_item : (at n : ℕ) (rest : List ℕ) → (n ≡ 0 → ⊥)
    → items_from at 0 (n ∷ rest) ≡ (judge_item at n rest >> (items_from (at + 1) n rest >>= λ items. accepted (take n rest ∷ items)))
unfolding items_from
at_item at n rest some = rw (ne_eqb n 0 some) refl

-- ---- the same, of a whole string

-- the items of `s` from place `at` on
unfoldable pub items_left : List ℕ → ℕ → Answer (List (List ℕ))
items_left s at = items_from at 0 (drop at s)

pub left_whole : (s : List ℕ) → read_string s ≡ items_left s 0
unfolding read_string items_left
left_whole s = refl

pub left_end : (s : List ℕ) (at : ℕ) → length s ≤ at → items_left s at ≡ refused (missing_terminator at)
unfolding items_left items_from
left_end s at h = rw (drop_of_length-le s h, add-zero) refl

-- a change of what was accepted leaves the verdict
verdict_kept : {A B : Type 0} (m : Answer A) (f : A → B) → verdict (m >>= λ a. accepted (f a)) ≡ verdict m
unfolding ◌>>=◌ given
verdict_kept (accepted a) f = refl
verdict_kept (refused r) f = refl

-- at a place inside the string, whose length byte is `n`, with `rest` after it
module _ (s : List ℕ) (at : ℕ) (inside : at < length s) where
  from_byte : drop at s ≡ get_or s at 0 ∷ drop (at + 1) s
  from_byte = rw (add-one, drop-cons s at 0)

  pub left_terminator : get_or s at 0 ≡ 0 → items_left s at ≡ closed at (drop (at + 1) s)
  unfolding items_left
  left_terminator none =
      ap (items_from at 0) (from_byte ∙ ap (λ (n : ℕ). n ∷ drop (at + 1) s) none) ∙ at_terminator at (drop (at + 1) s)

  pub left_item : (get_or s at 0 ≡ 0 → ⊥)
      → items_left s at
      ≡ (judge_item at (get_or s at 0) (drop (at + 1) s) >> (items_left s (at + 1 + get_or s at 0) >>= λ items. accepted (take (get_or s at 0) (drop (at + 1) s) ∷ items)))
  unfolding items_left
  left_item some =
      let n : ℕ = get_or s at 0 in
      let rest : List ℕ = drop (at + 1) s in
      ap (items_from at 0) from_byte
      ∙ at_item at n rest some
      ∙ ap (λ (later : Answer (List (List ℕ))). judge_item at n rest >> (later >>= λ items. accepted (take n rest ∷ items)))
      (passed (at + 1) n rest ∙ ap (items_from (at + 1 + n) 0) (drop-drop n (at + 1) s))

  -- a refused item ends the string
  pub left_refused : (get_or s at 0 ≡ 0 → ⊥) → (r : Refusal) → judge_item at (get_or s at 0) (drop (at + 1) s) ≡ refused r → items_left s at ≡ refused r
  unfolding ◌>>◌
  left_refused some r bad = left_item some ∙ rw bad refl

  -- after a good item the verdict is that of what follows it
  pub left_good : (get_or s at 0 ≡ 0 → ⊥) → judge_item at (get_or s at 0) (drop (at + 1) s) ≡ pass
      → verdict (items_left s at) ≡ verdict (items_left s (at + 1 + get_or s at 0))
  left_good some good =
      ap verdict (left_item some ∙ then_pass _ _ good)
      ∙ verdict_kept (items_left s (at + 1 + get_or s at 0)) (λ items. take (get_or s at 0) (drop (at + 1) s) ∷ items)

-- ---- the key rule

-- a key byte
abbrev pub InRange : ℕ → Type 0
InRange b = (0x20 ≤ b) × (b ≤ 0x7e)

otherwise : (t : Bool) → (t ≡ true → ⊥) → t ≡ false
otherwise true never = absurd (never refl)
otherwise false never = refl

-- no byte of the key is refused
bytes_pass : (item i : ℕ) (key : List ℕ) → (judge_bytes item i key ≡ pass) ↔ All InRange key
unfolding judge_bytes
bytes_pass item i [] = ((λ e. tt), (λ h. refl))
bytes_pass item i (b ∷ key) =
    let test = test_accepted (invalid_key_byte item i b) (leb 0x20 b && leb b 0x7e) (judge_bytes item (i + 1) key) tt in
    let later = bytes_pass item (i + 1) key in (
      (λ e. let r = and_inv _ _ (test.0 e).0 in ((leb-true _ _ r.0, leb-true _ _ r.1), later.0 (test.0 e).1)),
      (λ h. test.1 (simp (le-leb _ _ h.0.0, le-leb _ _ h.0.1), later.1 h.1)),
    )

pub spaces : (key : List ℕ) → (all_spaces key ≡ true) ↔ All (λ b. b ≡ 0x20) key
unfolding all_spaces
spaces [] = ((λ e. tt), (λ h. refl))
spaces (b ∷ key) = (
  (λ e. let r = and_inv _ _ e in (eqb-true _ _ r.0, (spaces key).0 r.1)),
  (λ h. simp (eq-eqb b 0x20 h.0) ((spaces key).1 h.1)),
)

-- a key passes: the three facts
abbrev Passes : List ℕ → Type 0
Passes key = (key ≡ [] → ⊥) × All InRange key × (All (λ b. b ≡ 0x20) key → ⊥)

pub no_length : (key : List ℕ) → length key ≡ 0 → key ≡ []
no_length [] e = refl
no_length (b ∷ key) e = absurd (omega arith)

pub key_passes : (item : ℕ) (key : List ℕ) → (judge_key item key ≡ pass) ↔ Passes key
unfolding judge_key
key_passes item key = (there, back)
  where
    blank : Verdict
    blank = refuse only_whitespace item when all_spaces key else pass

    there : judge_key item key ≡ pass → Passes key
    there e =
        let some = when_accepted (empty_key item) (eqb (length key) 0) (judge_bytes item 0 key >> blank) tt e in
        let good = then_accepted (judge_bytes item 0 key) blank tt some.1 in
        let ink = when_accepted (only_whitespace item) (all_spaces key) pass tt good.1 in (
          (λ none. eqb-false (length key) 0 some.0 (ap length none)),
          (bytes_pass item 0 key).0 good.0,
          (λ all. let z : true ≡ false = sym ((spaces key).1 all) ∙ ink.0 in absurd (let y : ◌≡◌ {A = ℕ} 0 1 = cc in omega arith)),
        )

    back : Passes key → judge_key item key ≡ pass
    back h =
        when_pass (empty_key item) (eqb (length key) 0) (judge_bytes item 0 key >> blank) (ne_eqb (length key) 0 (λ e. h.0 (no_length key e)))
        ∙ then_pass (judge_bytes item 0 key) blank ((bytes_pass item 0 key).1 h.1)
        ∙ when_pass (only_whitespace item) (all_spaces key) pass (otherwise (all_spaces key) (λ e. h.2 ((spaces key).0 e)))

-- no `=` in it
abbrev NoEquals : List ℕ → Type 0
NoEquals = All (λ b. b ≡ 0x3d → ⊥)

key_clean : (item : List ℕ) → NoEquals (key_of item)
unfolding key_of
key_clean [] = tt
key_clean (b ∷ item) = go (eqb b 0x3d) refl (key_clean item)
  where
    go : (t : Bool) → eqb b 0x3d ≡ t → NoEquals (key_of item) → NoEquals (cond t [] (b ∷ key_of item))
    go true e later = tt
    go false e later = (eqb-false b 0x3d e, later)

abbrev Shape : List ℕ → List ℕ → Type 0
Shape item key = (item ≡ key) ⊎ ((value : List ℕ) × (item ≡ key ++ (0x3d ∷ value)))

key_shape : (item : List ℕ) → Shape item (key_of item)
unfolding key_of
key_shape [] = inl refl
key_shape (b ∷ item) = go (eqb b 0x3d) refl (key_shape item)
  where
    go : (t : Bool) → eqb b 0x3d ≡ t → Shape item (key_of item) → Shape (b ∷ item) (cond t [] (b ∷ key_of item))
    go true e later = inr (item, ap (λ (x : ℕ). x ∷ item) (eqb-true b 0x3d e))
    go false e (inl whole) = inl (ap (λ (l : List ℕ). b ∷ l) whole)
    go false e (inr (value, split)) = inr (value, ap (λ (l : List ℕ). b ∷ l) split)

key_whole : (key : List ℕ) → NoEquals key → key_of key ≡ key
unfolding key_of
key_whole [] h = refl
key_whole (b ∷ key) h = rw (ne_eqb b 0x3d h.0) (ap (λ (l : List ℕ). b ∷ l) (key_whole key h.1))

key_before : (key value : List ℕ) → NoEquals key → key_of (key ++ (0x3d ∷ value)) ≡ key
unfolding key_of
key_before [] value h = refl
key_before (b ∷ key) value h = rw (ne_eqb b 0x3d h.0) (ap (λ (l : List ℕ). b ∷ l) (key_before key value h.1))

-- key bytes are in range, and `=` is none of them
abbrev KeyByte : ℕ → Type 0
KeyByte b = (0x20 ≤ b) × (b ≤ 0x7e) × (b ≡ 0x3d → ⊥)

key_bytes : (key : List ℕ) → All KeyByte key ↔ (All InRange key × NoEquals key)
key_bytes key = (
  (λ h. (all_map KeyByte InRange (λ b w. (w.0, w.1)) key h, all_map KeyByte (λ b. b ≡ 0x3d → ⊥) (λ b w. w.2) key h)),
  (λ h. all_map (λ b. InRange b × (b ≡ 0x3d → ⊥)) KeyByte (λ b w. (w.0.0, w.0.1, w.1)) key (all_both InRange (λ b. b ≡ 0x3d → ⊥) key h.0 h.1)),
)

-- the key of a good item, found again by the reading
key_found : (item : List ℕ) (g : GoodItem item) → key_of item ≡ g.key
key_found item g =
    let clean = ((key_bytes g.key).0 g.good_key.printable).1 in
    ⊎_elim
    (λ whole. ap key_of whole ∙ key_whole g.key clean)
    (λ split. ap key_of split.1 ∙ key_before g.key split.0 clean)
    g.shape

-- the key rule: what the reading lets pass is a good item in the layout's words
pub key_rule : (at : ℕ) (item : List ℕ) → (judge_key at (key_of item) ≡ pass) ↔ GoodItem item
key_rule at item = (there, back)
  where
    there : judge_key at (key_of item) ≡ pass → GoodItem item
    there e =
        let h = (key_passes at (key_of item)).0 e in
        record {
          key = key_of item;
          good_key = record { not_empty = h.0; printable = (key_bytes (key_of item)).1 (h.1, key_clean item); not_all_spaces = h.2 };
          shape = key_shape item;
        }

    back : GoodItem item → judge_key at (key_of item) ≡ pass
    back g =
        let k = g.good_key in
        ap (judge_key at) (key_found item g) ∙ (key_passes at g.key).1 (k.not_empty, ((key_bytes g.key).0 k.printable).0, k.not_all_spaces)

-- an item passes just where it lies within the string and is good
pub item_passes : (at n : ℕ) (rest : List ℕ) → (judge_item at n rest ≡ pass) ↔ ((n ≤ length rest) × GoodItem (take n rest))
unfolding judge_item
item_passes at n rest = (
  (λ e. let w = when_accepted (item_too_long at n (length rest)) (ltb (length rest) n) (judge_key at (key_of (take n rest))) tt e in (ltb-false _ _ w.0, (key_rule at (take n rest)).0 w.1)),
  (λ h. when_pass (item_too_long at n (length rest)) (ltb (length rest) n) (judge_key at (key_of (take n rest))) (le-ltb _ _ h.0) ∙ (key_rule at (take n rest)).1 h.1),
)

-- ---- the accepted strings

-- `items` are good, and laid out they are `s`
abbrev pub ItemsLaid : List (List ℕ) → List ℕ → Type 0
ItemsLaid items s = All GoodItem items × (lay_items items ≡ s)

closed_laid : (at : ℕ) (rest : List ℕ) (items : List (List ℕ)) → closed at rest ≡ accepted items → ItemsLaid items (0 ∷ rest)
unfolding closed lay_items
closed_laid at rest items e =
    let w = when_accepted (trailing_data at) (not (eqb (length rest) 0)) (accepted []) items e in
    let none : rest ≡ [] = no_length rest (eqb-true _ _ (not-false _ w.0)) in
    rw (closed_nothing at rest items e, none) (tt, refl)

item_laid : (n : ℕ) (rest : List ℕ) (later : List (List ℕ)) → n ≤ length rest → GoodItem (take n rest) → ItemsLaid later (drop n rest) → ItemsLaid (take n rest ∷ later) (n ∷ rest)
unfolding lay_items
item_laid n rest later fits good laid = (
  (good, laid.0),
  ap₂ {C = List ℕ} (λ m r. m ∷ r) (length-take-le n rest fits) (ap (λ (r : List ℕ). take n rest ++ r) laid.1 ∙ take-append-drop n rest),
)

-- what is left of an accepted string after the bytes that were passed
read_laid : (at k : ℕ) (l : List ℕ) (items : List (List ℕ)) → items_from at k l ≡ accepted items → ItemsLaid items (drop k l)
unfolding items_from
read_laid at k [] items e = not_refused (missing_terminator (at + k)) items e
read_laid at (suc k) (b ∷ l) items e = read_laid (at + 1) k l items e
read_laid at zero (zero ∷ rest) items e = closed_laid at rest items e
read_laid at zero (suc m ∷ rest) items e =
    let n : ℕ = suc m in
    let with_it : List (List ℕ) → Answer (List (List ℕ)) = λ later. accepted (take n rest ∷ later) in
    let here = then_accepted (judge_item at n rest) (items_from (at + 1) n rest >>= with_it) items (sym (at_item at n rest (λ z. absurd (omega arith))) ∙ e) in
    let after = bind_accepted (items_from (at + 1) n rest) with_it items here.1 in
    let good = (item_passes at n rest).0 here.0 in
    subst (λ (i : List (List ℕ)). ItemsLaid i (n ∷ rest)) (accepted_inj _ _ after.2)
    (item_laid n rest after.0 good.0 good.1 (read_laid (at + 1) n rest after.0 after.1))

-- a good item is not empty
good_some : (item : List ℕ) → GoodItem item → length item ≡ 0 → ⊥
unfolding key_of
good_some item g none = g.good_key.not_empty (sym (key_found item g) ∙ ap key_of (no_length item none))

laid_read : (at : ℕ) (items : List (List ℕ)) → All GoodItem items → items_from at 0 (lay_items items) ≡ accepted items
unfolding lay_items
laid_read at [] good = at_terminator at [] ∙ closed_last at [] refl
laid_read at (item ∷ items) good =
    let n : ℕ = length item in
    let rest : List ℕ = item ++ lay_items items in
    let with_it : List (List ℕ) → Answer (List (List ℕ)) = λ later. accepted (take n rest ∷ later) in
    let whole : take n rest ≡ item = take-append_seam item (lay_items items) in
    at_item at n rest (good_some item good.0)
    ∙ then_pass (judge_item at n rest) (items_from (at + 1) n rest >>= with_it) ((item_passes at n rest).1 (simp length-append (omega arith), rw whole good.0))
    ∙ bind_pass (items_from (at + 1) n rest) with_it items
    (passed (at + 1) n rest ∙ ap (items_from (at + 1 + n) 0) (drop-append_seam item (lay_items items)) ∙ laid_read (at + 1 + n) items good.1)
    ∙ ap (λ (i : List ℕ). accepted (i ∷ items)) whole

pub handed_laid : (s : List ℕ) (items : List (List ℕ)) → (read_string s ≡ accepted items) ↔ ItemsLaid items s
unfolding read_string
handed_laid s items = (read_laid 0 0 s items, (λ laid. ap (items_from 0 0) (sym laid.1) ∙ laid_read 0 items laid.0))

-- a configuration string is accepted exactly when some list of items with good keys, laid out and closed, gives those bytes; there is one such list
pub strings_exact : (s : List ℕ) → StringsExact s
strings_exact s = record {
  handed = handed_laid s;
  only_one = λ items others a b. accepted_inj items others (sym ((handed_laid s items).1 a) ∙ (handed_laid s others).1 b);
}
