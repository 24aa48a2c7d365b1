-- Each case of the code says its row of the rules' table, and as data it stands there with zeros behind it. Assumes nothing.
use Prim.Native.Nat.{ℕ, zero, suc, ◌≤◌, ◌<◌}
use mathlib.Core.Path.{◌≡◌, refl, ap}
use mathlib.Core.List.{List, [], ◌∷◌, ◌++◌}
use native.Mathlib.Omega.{arith}
use lib.ListN.{length, take, get_or, length-append}
use Rattle.numbers.specs.Refusals as paper
use Rattle.numbers.specs.Refusals.{Place, told, gives}
use Rattle.numbers.specs.Answers.{refused}
use Rattle.refusal.specs.declared.Refusal.{Refusal}
use Rattle.refusal.specs.Said.{said, places, padded, laid}
use Rattle.refusal.specs.Rows.{row, Last, Rows}

-- ---- values in their places

pub padded_front : (n : ℕ) (vs : List ℕ) → length vs ≤ n → take (length vs) (padded n vs) ≡ vs
padded_front n [] h = refl
padded_front zero (v ∷ vs) h = absurd (omega arith)
padded_front (suc n) (v ∷ vs) h = grind (arith, padded_front n vs)

padded_none : (n i : ℕ) → get_or (padded n []) i 0 ≡ 0
padded_none zero i = refl
padded_none (suc n) zero = refl
padded_none (suc n) (suc i) = padded_none n i

pub padded_behind : (n : ℕ) (vs : List ℕ) (i : ℕ) → length vs ≤ i → get_or (padded n vs) i 0 ≡ 0
padded_behind n [] i h = padded_none n i
padded_behind zero (v ∷ vs) i h = refl
padded_behind (suc n) (v ∷ vs) zero h = absurd (omega arith)
padded_behind (suc n) (v ∷ vs) (suc i) h = grind (arith, padded_behind n vs i)

-- one more value stands behind the others
padded_others : (n : ℕ) (vs : List ℕ) (p : ℕ) → length (vs ++ (p ∷ [])) ≤ n → take (length vs) (padded n (vs ++ (p ∷ []))) ≡ vs
padded_others n [] p h = refl
padded_others zero (v ∷ vs) p h = absurd (omega arith)
padded_others (suc n) (v ∷ vs) p h = grind (arith, padded_others n vs p)

padded_last : (n : ℕ) (vs : List ℕ) (p : ℕ) → length (vs ++ (p ∷ [])) ≤ n → get_or (padded n (vs ++ (p ∷ []))) (length vs) 0 ≡ p
padded_last zero [] p h = absurd (omega arith)
padded_last zero (v ∷ vs) p h = absurd (omega arith)
padded_last (suc n) [] p h = refl
padded_last (suc n) (v ∷ vs) p h = grind (arith, padded_last n vs p)

last_laid : (r : paper.Refusal) (p : ℕ) → r.place ≡ told p → length (gives r) ≤ places → Last r (laid r) p
last_laid r p e few =
    let long : length (r.values ++ (p ∷ [])) ≤ places = rw e at few in
    rw e (record {
      one_more = length-append r.values (p ∷ []);
      others_in_front = padded_others places r.values p long;
      there = padded_last places r.values p long;
    })

-- ---- case by case

-- a refusal says its row, its number is not 0, and its values have places
record Case (r : Refusal) : Type 0 where
  says : said r ≡ row r
  not_zero : 0 < (row r).number
  few : length (gives (row r)) ≤ places

case : (r : Refusal) → Case r
case r = grind arith

pub rows : Rows
rows =
    record {
      rows = λ r. (case r).says;
      never_zero = λ r. rw (case r).says (case r).not_zero;
      passed = refl;
      verdict_refused = λ r. ap refused (case r).says;
      counted = λ n. refl;
      count_refused = λ r. ap refused (case r).says;
      few = λ r. (case r).few;
      data_of = λ r. rw (case r).says (record {
        number = refl;
        count = refl;
        values = padded_front places (gives (row r)) (case r).few;
        zeros_behind = padded_behind places (gives (row r));
      });
      place_last = λ r p e. rw (case r).says (last_laid (row r) p e (case r).few);
    }
