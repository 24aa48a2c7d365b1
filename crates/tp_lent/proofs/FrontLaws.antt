-- Laws of the first words of many: as many as a state has hold the state that all of them hold. Assumes nothing.
use Rattle.std.proofs.Common.{ℕ, ◌≡◌, sym, ap, ◌∙◌, arith, cond, not, ◌&&◌, ◌||◌, List, ◌++◌, take, drop, ltb, eqb, le_refl}
use lib.Seq.{drop-append-le}
use Rattle.std.specs.Array.{IsFirstChunk}
use Rattle.tp_machine.specs.Machine.{most, highest, bad_range}
use Rattle.tp_range.specs.Ordered.{rising}
use Rattle.tp_stream.specs.Stream.{view}
use Rattle.tp_words.specs.Words.{size}
use Rattle.tp_words.proofs.FirstLaws.{first_length, first_word, first_whole, first_ranges, first_unfit, first_stream}
use Rattle.tp_lent.specs.Lent.{top_of, unready, in_order}

module _ (ws f : List ℕ) (is : IsFirstChunk ws f size) where
  first_top : top_of f ≡ top_of ws
  first_top = λ i. cond (eqb (first_word ws f is 2 (omega arith) i) 0) (first_word ws f is 0 (omega arith) i) (first_word ws f is 3 (omega arith) i)

  pub first_unready : unready f ≡ unready ws
  first_unready = λ i. first_unfit ws f is i || (ltb most (first_word ws f is 1 (omega arith) i) || (ltb highest (first_word ws f is 0 (omega arith) i) || ltb (first_word ws f is 0 (omega arith) i) (first_top i)))

  pub first_order : in_order f ≡ in_order ws
  first_order = λ i. not (first_unready i) && rising (bad_range (view (first_stream ws f is i))) 0 (take (first_word ws f is 1 (omega arith) i) (first_ranges ws f is most (le_refl most) i))

  pub first_front : drop 5 f ++ drop size ws ≡ drop 5 ws
  first_front = sym (drop-append-le 5 f (drop size ws) (omega (arith, first_length ws f is))) ∙ ap (drop 5) (first_whole ws f is)
