-- Which words hold a stream, and a stream put into words. Assumes nothing.
use Rattle.std.specs.Prelude.{Option, Some, None}
use Rattle.std.specs.Option.{unwrap_or}
use Prim.Native.Nat.{ℕ, ◌≤◌, ◌<◌}
use mathlib.Core.Path.{◌≡◌, refl, ap, ap₂, ◌∙◌}
use mathlib.Core.Bool.{Bool, true, false, ◌||◌, cond}
use mathlib.Core.List.{List, [], ◌∷◌, ◌++◌}
use borrow.Author.Tests.{lt-ltb, le-ltb, ltb-false}
use lib.Dec.{ltb}
use lib.ListN.{length, take, drop, get_or, replicate}
use Rattle.tp_machine.specs.declared.TpRange.{TpRange}
use Rattle.tp_machine.specs.Machine.{most, previous}
use Rattle.tp_machine.proofs.Lists.{or_inv}
use Rattle.tp_stream.specs.declared.TpStream.{TpStream}
use Rattle.tp_stream.specs.Stream.{blank}
use Rattle.tp_range.specs.Joining.{none}
use Rattle.tp_words.specs.Words.{size, ranges_in, end_of, unfit, held_in, stream_of, outside, known, flat, words_of, put}

pub outside_made : record { limit = 0; ranges = replicate most none; count = 0; end = Some 1; accepted = 0 } ≡ outside
unfolding blank
outside_made = refl

-- the state that words hold, from its parts
pub held : (ws : List ℕ) (rs : List TpRange) (e : Option ℕ) → rs ≡ ranges_in ws most → e ≡ end_of (get_or ws 2 0) (get_or ws 3 0)
    → record { limit = get_or ws 0 0; ranges = rs; count = get_or ws 1 0; end = e; accepted = get_or ws 4 0 } ≡ held_in ws
unfolding held_in
held ws rs e p q = λ i. record { limit = get_or ws 0 0; ranges = p i; count = get_or ws 1 0; end = q i; accepted = get_or ws 4 0 }

-- ---- which words are unfit

module _ (ws : List ℕ) where
  pub too_few : length ws < size → unfit ws ≡ true
  too_few h = rw (lt-ltb (length ws) size h)

  pub enough : size ≤ length ws → unfit ws ≡ ltb 1 (get_or ws 2 0)
  enough h = rw (le-ltb (length ws) size h)

  pub fit : unfit ws ≡ false → size ≤ length ws
  fit e = ltb-false (length ws) size (or_inv (ltb (length ws) size) _ e).0

  pub not_told : unfit ws ≡ true → outside ≡ stream_of ws
  unfolding stream_of
  not_told e = rw e

  pub told : unfit ws ≡ false → held_in ws ≡ stream_of ws
  unfolding stream_of
  told e = rw e

-- ---- a stream put into words

or_zero : (e : Option ℕ) → unwrap_or e 0 ≡ previous e
or_zero None = refl
or_zero (Some e) = refl

module _ (ws : List ℕ) (s : TpStream) where
  pub put_few : length ws < size → ws ≡ put ws s
  unfolding put
  put_few h = rw (lt-ltb (length ws) size h)

  pub put_many : most < s.count → ws ≡ put ws s
  unfolding put
  put_many m = rw (lt-ltb most s.count m) (go (ltb (length ws) size))
    where
      go : (b : Bool) → ws ≡ cond (b || true) ws (words_of s ++ drop size ws)
      go true = refl
      go false = refl

  module _ (h : size ≤ length ws) (m : s.count ≤ most) where
    pub put_all : words_of s ++ drop size ws ≡ put ws s
    unfolding put
    put_all = rw (le-ltb (length ws) size h, le-ltb most s.count m)

-- the first five words, and then the ranges
pub words_both : (ws : List ℕ) (s : TpStream) (a b k e n : ℕ) (front all : List ℕ) → a ∷ b ∷ known s.end ∷ previous s.end ∷ n ∷ flat s.ranges ≡ words_of s
    → k ≡ known s.end → e ≡ unwrap_or s.end 0 → front ≡ a ∷ b ∷ k ∷ e ∷ n ∷ [] → all ≡ take 5 (front ++ drop 5 ws) ++ flat s.ranges → all ≡ words_of s
words_both ws s a b k e n front all w p q f g =
    g
    ∙ ap (λ (l : List ℕ). take 5 (l ++ drop 5 ws) ++ flat s.ranges) (f ∙ ap₂ {C = List ℕ} (λ (x y : ℕ). a ∷ b ∷ x ∷ y ∷ n ∷ []) p (q ∙ or_zero s.end))
    ∙ w
