-- Laws of the first words of many: as many as a state has hold the state that all of them hold. Assumes nothing.
use Rattle.std.proofs.Common.{ℕ, zero, suc, ◌+◌, ◌*◌, ◌≤◌, ◌<◌, ◌≡◌, refl, ap, ap₂, ◌∙◌, arith, Bool, true, false, cond, List, [], ◌∷◌, ◌++◌, append_assoc, length, drop, get_or, ltb, le_refl, take-append-drop}
use Rattle.std.proofs.lemmas.List.{drop_all}
use lib.Seq.{get_or-take, length-take-le}
use borrow.Author.Tests.{le-ltb}
use Rattle.std.specs.Array.{IsFirstChunk}
use Rattle.tp_machine.specs.declared.TpRange.{TpRange}
use Rattle.tp_machine.specs.Machine.{most}
use Rattle.tp_stream.specs.declared.TpStream.{TpStream}
use Rattle.tp_words.specs.Words.{size, range_at, ranges_in, end_of, unfit, outside, held_in, stream_of, words_of, put}

module _ (ws f : List ℕ) (is : IsFirstChunk ws f size) where
  pub first_length : length f ≡ size
  first_length = ap length is.same ∙ length-take-le size ws is.enough

  pub first_word : (i : ℕ) → i < size → get_or f i 0 ≡ get_or ws i 0
  first_word i h = ap (λ (l : List ℕ). get_or l i 0) is.same ∙ get_or-take size ws i 0 h

  pub first_whole : f ++ drop size ws ≡ ws
  first_whole = ap (λ (l : List ℕ). l ++ drop size ws) is.same ∙ take-append-drop size ws

  pub first_range : (i : ℕ) → i < most → range_at f i ≡ range_at ws i
  first_range i h = λ j. record {
    start = first_word (5 + 3 * i) (omega arith) j;
    end = first_word (5 + 3 * i + 1) (omega arith) j;
    number = first_word (5 + 3 * i + 2) (omega arith) j;
  }

  pub first_ranges : (n : ℕ) → n ≤ most → ranges_in f n ≡ ranges_in ws n
  unfolding ranges_in
  first_ranges zero h = refl
  first_ranges (suc n) h = ap₂ {C = List TpRange} (λ (l : List TpRange) (r : TpRange). l ++ (r ∷ [])) (first_ranges n (omega arith)) (first_range n h)

  pub first_unfit : unfit f ≡ unfit ws
  first_unfit = rw (le-ltb (length ws) size is.enough, le-ltb (length f) size (omega (arith, first_length))) (ap (ltb 1) (first_word 2 (omega arith)))

  pub first_held : held_in f ≡ held_in ws
  unfolding held_in
  first_held = λ i. record {
    limit = first_word 0 (omega arith) i;
    ranges = first_ranges most (le_refl most) i;
    count = first_word 1 (omega arith) i;
    end = end_of (first_word 2 (omega arith) i) (first_word 3 (omega arith) i);
    accepted = first_word 4 (omega arith) i;
  }

  pub first_stream : stream_of f ≡ stream_of ws
  unfolding stream_of
  first_stream = λ i. cond (first_unfit i) outside (first_held i)

  -- what is put into them is put into all
  pub first_put : (s : TpStream) → put f s ++ drop size ws ≡ put ws s
  unfolding put
  first_put s = rw (le-ltb (length ws) size is.enough, le-ltb (length f) size (omega (arith, first_length))) (go (ltb most s.count))
    where
      behind : drop size f ≡ []
      behind = drop_all size f (omega (arith, first_length))

      go : (b : Bool) → cond b f (words_of s ++ drop size f) ++ drop size ws ≡ cond b ws (words_of s ++ drop size ws)
      go true = first_whole
      go false = rw behind (append_assoc (words_of s) [] (drop size ws))
