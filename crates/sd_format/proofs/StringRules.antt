-- The configuration string follows the rules: which of the six errors comes, and with which numbers. Assumes nothing.
use mathlib.Core.Path.{◌≡◌, refl, sym, ap, ◌∙◌, subst}
use mathlib.Core.Bool.{Bool, true, false, not, ◌&&◌, and-false}
use mathlib.Core.Logic.{◌↔◌, ◌≢◌, ◌⊎◌, inl, inr}
use mathlib.Core.List.{List, [], ◌∷◌, ◌++◌}
use Prim.Native.Nat.{ℕ, zero, suc, ◌+◌, ◌<◌}
use native.Mathlib.Nat.{add-zero}
use native.Mathlib.Omega.{arith}
use lib.ListN.{length, take, drop}
use lib.Dec.{leb, eqb}
use borrow.Author.Tests.{leb-false, lt-leb, le-leb, eqb-true, eq-eqb, leb-true}
use Rattle.numbers.specs.Refusals.{Refusal, missing_terminator, trailing_data, invalid_key_byte}
use Rattle.numbers.specs.Answers.{accepted, refused, Verdict, ◌>>=◌, ◌>>◌, refuse◌when◌else◌, All}
use Rattle.numbers.specs.Rules.{accept, part◌else◌, Follows}
use Rattle.numbers.proofs.AnswerLaws.{not_refused, refused_inj, then_pass, bind_refused}
use Rattle.numbers.proofs.TestLaws.{below, and_inv}
use Rattle.numbers.proofs.RuleLaws.{follows_accepted, follows_if, follows_then, follows_part}
use Rattle.sd_format.specs.Strings.{key_of, judge_bytes, judge_key, judge_item, items_from, read_string}
use Rattle.sd_format.specs.Rules.{BadByte, key_rules, item_rules, StringRefused, unterminated, trailing, this_item, later_item}
use Rattle.sd_format.proofs.StringLaws.{InRange, spaces, no_length, passed, closed_last, closed_trailing, at_item}

-- ---- the first bad byte

-- the same from place `i` of the item on
record BadFrom (item i : ℕ) (key : List ℕ) (r : Refusal) : Type 0 where
  before : List ℕ
  byte : ℕ
  behind : List ℕ
  among : key ≡ before ++ (byte ∷ behind)
  good : All InRange before
  bad : (byte < 0x20) ⊎ (0x7e < byte)
  says : (n : ℕ) → n ≡ i + length before → invalid_key_byte item n byte ≡ r

outside : (b : ℕ) → (leb 0x20 b && leb b 0x7e) ≡ false → (b < 0x20) ⊎ (0x7e < b)
outside b e = go (leb 0x20 b) refl e
  where
    go : (t : Bool) → leb 0x20 b ≡ t → (t && leb b 0x7e) ≡ false → (b < 0x20) ⊎ (0x7e < b)
    go true h k = inr (leb-false b 0x7e k)
    go false h k = inl (leb-false 0x20 b h)

bad_test : (b : ℕ) → (b < 0x20) ⊎ (0x7e < b) → (leb 0x20 b && leb b 0x7e) ≡ false
bad_test b (inl low) = rw (lt-leb 0x20 b low)
bad_test b (inr high) = rw (lt-leb b 0x7e high) (and-false (leb 0x20 b))

bytes_bad : (item i : ℕ) (key : List ℕ) (r : Refusal) → judge_bytes item i key ≡ refused r → BadFrom item i key r
unfolding judge_bytes refuse◌when◌else◌
bytes_bad item i [] r e = not_refused r tt (sym e)
bytes_bad item i (b ∷ key) r e = go (leb 0x20 b && leb b 0x7e) refl e (bytes_bad item (i + 1) key r)
  where
    go : (t : Bool) → (leb 0x20 b && leb b 0x7e) ≡ t → (refuse invalid_key_byte item i b when not t else judge_bytes item (i + 1) key) ≡ refused r
        → (judge_bytes item (i + 1) key ≡ refused r → BadFrom item (i + 1) key r) → BadFrom item i (b ∷ key) r
    go true h e later =
        let w = later e in
        let fine = and_inv _ _ h in
        record {
          before = b ∷ w.before;
          byte = w.byte;
          behind = w.behind;
          among = ap (λ (l : List ℕ). b ∷ l) w.among;
          good = ((leb-true _ _ fine.0, leb-true _ _ fine.1), w.good);
          bad = w.bad;
          says = λ n m. w.says n (omega arith);
        }
    go false h e later =
        record {
          before = [];
          byte = b;
          behind = key;
          among = refl;
          good = tt;
          bad = outside b h;
          says = λ n m. ap (λ (k : ℕ). invalid_key_byte item k b) (m ∙ add-zero i) ∙ refused_inj _ r e;
        }

bad_bytes : (item i : ℕ) (before : List ℕ) (byte : ℕ) (behind : List ℕ) → All InRange before → (byte < 0x20) ⊎ (0x7e < byte)
    → (n : ℕ) → n ≡ i + length before → judge_bytes item i (before ++ (byte ∷ behind)) ≡ refused (invalid_key_byte item n byte)
unfolding judge_bytes refuse◌when◌else◌
bad_bytes item i [] byte behind good bad n m = rw (bad_test byte bad) (ap (λ (k : ℕ). refused (invalid_key_byte item k byte)) (sym (m ∙ add-zero i)))
bad_bytes item i (b ∷ before) byte behind good bad n m =
    rw (le-leb 0x20 b good.0.0, le-leb b 0x7e good.0.1) (bad_bytes item (i + 1) before byte behind good.1 bad n (omega arith))

bytes_follow : (item : ℕ) (key : List ℕ) → Follows (judge_bytes item 0 key) (part (BadByte item key) else accept)
bytes_follow item key = follows_part (BadByte item key) (judge_bytes item 0 key) (λ r. (
  (λ e. let w = bytes_bad item 0 key r e in
      record { before = w.before; byte = w.byte; behind = w.behind; among = w.among; good = w.good; bad = w.bad; says = w.says (length w.before) (omega arith) }),
  (λ w. ap (judge_bytes item 0) w.among ∙ bad_bytes item 0 w.before w.byte w.behind w.good w.bad (length w.before) (omega arith) ∙ ap refused w.says),
))

-- ---- one item

no_key : (key : List ℕ) → (eqb (length key) 0 ≡ true) ↔ (key ≡ [])
no_key key = ((λ e. no_length key (eqb-true _ _ e)), (λ h. eq-eqb (length key) 0 (ap length h)))

key_follows : (item : ℕ) (key : List ℕ) → Follows (judge_key item key) (key_rules item key)
unfolding judge_key
key_follows item key =
    follows_if _ _ (no_key key)
    (follows_then (judge_bytes item 0 key) _ (part (BadByte item key) else accept) _ (bytes_follow item key)
    (follows_if _ _ (spaces key) (follows_accepted tt)))

pub item_follows : (item n : ℕ) (rest : List ℕ) → Follows (judge_item item n rest) (item_rules item n rest)
unfolding judge_item
item_follows item n rest = follows_if _ _ (below (length rest) n) (key_follows item (key_of (take n rest)))

-- ---- the string

string_stops : (at skip : ℕ) (l : List ℕ) (r : Refusal) → items_from at skip l ≡ refused r → (place : ℕ) → place ≡ at + skip → StringRefused place (drop skip l) r
unfolding items_from ◌>>◌
string_stops at zero [] r e place m = subst (StringRefused place []) (ap missing_terminator m ∙ refused_inj _ r e) unterminated
string_stops at (suc k) [] r e place m = subst (StringRefused place []) (ap missing_terminator m ∙ refused_inj _ r e) unterminated
string_stops at (suc k) (b ∷ l) r e place m = string_stops (at + 1) k l r e place (omega arith)
string_stops at zero (zero ∷ []) r e place m = not_refused r [] (sym e ∙ closed_last at [] refl)
string_stops at zero (zero ∷ b ∷ rest) r e place m =
    subst (StringRefused place (0 ∷ b ∷ rest)) (ap trailing_data (m ∙ add-zero at) ∙ refused_inj _ r (sym (closed_trailing at (b ∷ rest) (λ none. absurd (omega arith))) ∙ e))
    (trailing (λ none. let z : ◌≡◌ {A = ℕ} 0 1 = cc in absurd (omega arith)))
string_stops at zero (suc n ∷ rest) r e place m =
    subst (λ (p : ℕ). StringRefused p (suc n ∷ rest) r) (sym (m ∙ add-zero at)) (go (judge_item at (suc n) rest) refl (sym (at_item at (suc n) rest some) ∙ e) (string_stops (at + 1) (suc n) rest r))
  where
    some : suc n ≢ 0
    some z = absurd (omega arith)

    go : (v : Verdict) → judge_item at (suc n) rest ≡ v → (v >> (items_from (at + 1) (suc n) rest >>= λ items. accepted (take (suc n) rest ∷ items))) ≡ refused r
        → (items_from (at + 1) (suc n) rest ≡ refused r → (place : ℕ) → place ≡ at + 1 + suc n → StringRefused place (drop (suc n) rest) r)
        → StringRefused at (suc n ∷ rest) r
    go (accepted u) h e ih =
        later_item some ((item_follows at (suc n) rest).accepts.0 (u, h)) (ih (bind_refused (items_from (at + 1) (suc n) rest) (λ items. take (suc n) rest ∷ items) r e) (at + 1 + suc n) refl)
    go (refused q) h e ih = this_item some (((item_follows at (suc n) rest).refuses r).0 (h ∙ ap refused (refused_inj _ r e)))

refused_string : {at : ℕ} {s : List ℕ} {r : Refusal} → StringRefused at s r → items_from at 0 s ≡ refused r
unfolding items_from ◌>>=◌ ◌>>◌
refused_string (unterminated {at}) = ap (λ (p : ℕ). refused (missing_terminator p)) (add-zero at)
refused_string (trailing {at} {rest} some) = closed_trailing at rest (λ none. some (no_length rest none))
refused_string (this_item {at} {n} {rest} {r} some w) = at_item at n rest some ∙ rw (((item_follows at n rest).refuses r).1 w)
refused_string (later_item {at} {n} {rest} {r} some w later) =
    at_item at n rest some ∙ then_pass _ _ ((item_follows at n rest).accepts.1 w).1
    ∙ rw (passed (at + 1) n rest ∙ refused_string later)

pub string_refused : (s : List ℕ) (r : Refusal) → (read_string s ≡ refused r) ↔ StringRefused 0 s r
unfolding read_string
string_refused s r = ((λ e. string_stops 0 0 s r e 0 refl), refused_string)
