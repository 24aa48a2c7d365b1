-- What is shown of words that hold a stream. Assumes nothing.
use Rattle.std.specs.Prelude.{Option, Some, None}
use Prim.Native.Nat.{ℕ, zero, suc, ◌+◌, ◌*◌, ◌≤◌, ◌<◌}
use mathlib.Core.Path.{◌≡◌, refl, sym, ap, ◌∙◌}
use mathlib.Core.Bool.{Bool, true, false, ◌||◌, cond}
use mathlib.Core.List.{List, [], ◌∷◌, ◌++◌}
use mathlib.Core.Logic.{◌↔◌, inl, inr, ⊎_elim}
use native.Mathlib.Omega.{arith}
use borrow.Author.Tests.{lt-ltb, le-ltb, ltb-true, ltb-false}
use lib.Dec.{ltb}
use lib.ListN.{length, take, drop, get_or, length-append, length-drop}
use lib.Seq.{take-suc, take-length, drop_at}
use Rattle.numbers.specs.Refusals.{malformed_state}
use Rattle.numbers.specs.Answers.{given, refuse◌when◌else◌}
use Rattle.numbers.proofs.AnswerLaws.{when_hit}
use Rattle.tp_machine.specs.declared.TpRange.{TpRange}
use Rattle.tp_machine.specs.Machine.{most, State, bad_state, judged, previous}
use Rattle.tp_machine.specs.Taking.{complete, ready, taking}
use Rattle.tp_machine.specs.Telling.{range_told, count_told}
use Rattle.tp_machine.proofs.Lists.{or_cases}
use Rattle.tp_machine.proofs.Steps.{step_refused}
use Rattle.tp_range.specs.Joining.{none}
use Rattle.tp_range.proofs.Laws.{over_length, placed_over}
use Rattle.tp_stream.specs.declared.TpStream.{TpStream}
use Rattle.tp_stream.specs.Stream.{view, stored, blank, held}
use Rattle.tp_stream.proofs.StreamLaws.{view_stored}
use Rattle.tp_stream.proofs.MalformedLaws.{more_than_most}
use Rattle.tp_words.specs.Words.{size, range_at, ranges_in, end_of, unfit, outside, held_in, stream_of, state_of, flat, known, words_of, put}
use Rattle.tp_words.specs.Holding.{Tellable, Unfit, Refuses, WordsHold}
use Rattle.tp_words.proofs.WordLaws.{in_length, flat_length}
use Rattle.tp_words.proofs.PutLaws.{too_few, enough, not_told, told, put_few, put_many, put_all}

-- ---- the stream that is read is the one that was put

-- a range's three numbers, whatever stands behind the ranges
record Told (ws : List ℕ) (i : ℕ) (r : TpRange) : Type 0 where
  start : get_or ws (3 * i) 0 ≡ r.start
  end : get_or ws (3 * i + 1) 0 ≡ r.end
  number : get_or ws (3 * i + 2) 0 ≡ r.number

flat_at : (rs : List TpRange) (t : List ℕ) (i : ℕ) → i < length rs → Told (flat rs ++ t) i (get_or rs i none)
unfolding flat
flat_at [] t i h = absurd (omega arith)
flat_at (r ∷ rs) t zero h = record { start = refl; end = refl; number = refl }
flat_at (r ∷ rs) t (suc i) h =
    let one = flat_at rs t i (omega arith) in
    let a : 3 * suc i ≡ suc (suc (suc (3 * i))) = omega arith in
    let b : 3 * suc i + 1 ≡ suc (suc (suc (3 * i + 1))) = omega arith in
    let c : 3 * suc i + 2 ≡ suc (suc (suc (3 * i + 2))) = omega arith in
    record {
      start = ap (λ (n : ℕ). get_or (flat (r ∷ rs) ++ t) n 0) a ∙ one.start;
      end = ap (λ (n : ℕ). get_or (flat (r ∷ rs) ++ t) n 0) b ∙ one.end;
      number = ap (λ (n : ℕ). get_or (flat (r ∷ rs) ++ t) n 0) c ∙ one.number;
    }

module _ (l c k e m : ℕ) (rs : List TpRange) (t : List ℕ) where
  abbrev all : List ℕ
  all = l ∷ c ∷ k ∷ e ∷ m ∷ (flat rs ++ t)

  -- a word behind the first five
  behind_five : (i n : ℕ) → n ≡ 5 + i → get_or all n 0 ≡ get_or (flat rs ++ t) i 0
  behind_five i n q =
      let five : n ≡ suc (suc (suc (suc (suc i)))) = omega arith in
      ap (λ (x : ℕ). get_or all x 0) five

  range_is : (i : ℕ) → i < length rs → range_at all i ≡ get_or rs i none
  range_is i h =
      let one = flat_at rs t i h in
      λ j. record {
        start = (behind_five (3 * i) (5 + 3 * i) refl ∙ one.start) j;
        end = (behind_five (3 * i + 1) (5 + 3 * i + 1) (omega arith) ∙ one.end) j;
        number = (behind_five (3 * i + 2) (5 + 3 * i + 2) (omega arith) ∙ one.number) j;
      }

  ranges_are : (n : ℕ) → n ≤ length rs → ranges_in all n ≡ take n rs
  unfolding ranges_in
  ranges_are zero h = refl
  ranges_are (suc n) h = (λ j. ranges_are n (omega arith) j ++ (range_is n h j ∷ [])) ∙ sym (take-suc rs n none h)

end_back : (e : Option ℕ) → end_of (known e) (previous e) ≡ e
end_back None = refl
end_back (Some e) = refl

known_low : (e : Option ℕ) → known e ≤ 1
known_low None = omega arith
known_low (Some e) = omega arith

module _ (ws : List ℕ) (s : TpStream) (places : length s.ranges ≡ most) where
  words_length : length (words_of s) ≡ size
  unfolding words_of
  words_length = omega (arith, flat_length s.ranges)

  module _ (h : size ≤ length ws) (few : s.count ≤ most) where
    abbrev after : List ℕ
    after = words_of s ++ drop size ws

    held_back : held_in after ≡ s
    unfolding held_in words_of
    held_back =
        let rs : ranges_in after most ≡ s.ranges =
        ap (ranges_in after) (sym places)
        ∙ ranges_are _ _ _ _ _ s.ranges (drop size ws) (length s.ranges) (omega arith)
        ∙ take-length s.ranges in
        λ i. record { limit = s.limit; ranges = rs i; count = s.count; end = end_back s.end i; accepted = s.accepted }

    fits : unfit after ≡ false
    unfolding words_of
    fits = enough after (omega (arith, length-append (words_of s) (drop size ws), words_length)) ∙ le-ltb 1 (known s.end) (known_low s.end)

    put_back : stream_of (put ws s) ≡ s
    put_back = ap stream_of (sym (put_all ws s h few)) ∙ sym (told after fits) ∙ held_back

-- ---- nothing else is written
module _ (ws : List ℕ) (s : TpStream) (places : length s.ranges ≡ most) where
  -- what holds of the words as they were, and of those with the stream in front, holds after it was put
  either : (P : List ℕ → Type 0) → P ws → (size ≤ length ws → P (words_of s ++ drop size ws)) → P (put ws s)
  unfolding put
  either P same other = go (ltb (length ws) size) (ltb most s.count) refl
    where
      go : (a b : Bool) → ltb (length ws) size ≡ a → P (cond (a || b) ws (words_of s ++ drop size ws))
      go true b e = same
      go false true e = same
      go false false e = other (ltb-false (length ws) size e)

  put_length : length (put ws s) ≡ length ws
  put_length = either (λ l. length l ≡ length ws) refl (λ h. omega (arith, length-append (words_of s) (drop size ws), words_length ws s places, length-drop size ws))

  put_behind : drop size (put ws s) ≡ drop size ws
  put_behind = either (λ l. drop size l ≡ drop size ws) refl (λ h. drop_at (words_of s) (drop size ws) size (words_length ws s places))

stored_places : (s : TpStream) (p : State) → length s.ranges ≡ most → length p.ranges ≤ most → Tellable (stored s p)
stored_places s p places few =
    let fits : length p.ranges ≤ length s.ranges = omega arith in
    record { few = few; places = ap length (placed_over s.ranges p.ranges fits) ∙ over_length p.ranges s.ranges fits ∙ places }

read_places : (ws : List ℕ) → length (stream_of ws).ranges ≡ most
unfolding stream_of held_in blank
read_places ws = go (unfit ws)
  where
    go : (b : Bool) → length (cond b outside (held_in ws)).ranges ≡ most
    go true = refl
    go false = in_length ws most

-- ---- unfit words
unfit_means : (ws : List ℕ) → (unfit ws ≡ true) ↔ Unfit ws
unfit_means ws = (
  (λ e. ⊎_elim (λ a. inl (ltb-true (length ws) size a)) (λ b. let k : 1 < get_or ws 2 0 = ltb-true 1 (get_or ws 2 0) b in inr ((λ z. omega arith), (λ z. omega arith))) (or_cases (ltb (length ws) size) (ltb 1 (get_or ws 2 0)) e)),
  back,
)
  where
    other : (b : Bool) → (b || true) ≡ true
    other true = refl
    other false = refl

    back : Unfit ws → unfit ws ≡ true
    back (inl h) = too_few ws h
    back (inr n) = rw (lt-ltb 1 (get_or ws 2 0) (omega (arith, n.0, n.1))) (other (ltb (length ws) size))

outside_bad : bad_state (view outside) ≡ true
unfolding bad_state held blank
outside_bad = refl

unfit_malformed : (ws : List ℕ) → unfit ws ≡ true → bad_state (state_of ws) ≡ true
unfit_malformed ws e = ap (λ (s : TpStream). bad_state (view s)) (sym (not_told ws e)) ∙ outside_bad

many_malformed : (ws : List ℕ) → most < get_or ws 1 0 → bad_state (state_of ws) ≡ true
unfolding held_in
many_malformed ws h = go (unfit ws) refl
  where
    go : (b : Bool) → unfit ws ≡ b → bad_state (state_of ws) ≡ true
    go true e = unfit_malformed ws e
    go false e = ap (λ (s : TpStream). bad_state (view s)) (sym (told ws e)) ∙ sym (more_than_most (held_in ws) h)

refuses : (p : State) → bad_state p ≡ true → Refuses p
unfolding judged taking ready complete given range_told count_told refuse◌when◌else◌
refuses p m =
    record {
      segments = λ seg buf. step_refused p seg buf malformed_state (when_hit malformed_state (bad_state p) _ m);
      report = λ buf. rw m;
      incomplete = rw m;
      ranges = λ x. when_hit malformed_state (bad_state p) _ m;
      count = when_hit malformed_state (bad_state p) _ m;
    }

pub words_hold : WordsHold
words_hold =
    record {
      read_back = λ ws s h t. put_back ws s t.places h t.few;
      state_back = λ ws s h t. ap view (put_back ws s t.places h t.few);
      stored_back = λ ws s p h l f.
          let t = stored_places s p l f in
          ap view (put_back ws (stored s p) t.places h t.few) ∙ view_stored s p (omega arith);
      read_places = read_places;
      as_many = put_length;
      behind = put_behind;
      left_alone = λ ws s. ⊎_elim (λ h. sym (put_few ws s h)) (λ m. sym (put_many ws s m));
      unfit_means = unfit_means;
      unfit_malformed = unfit_malformed;
      unfit_refuses = λ ws e. refuses (state_of ws) (unfit_malformed ws e);
      many_refuses = λ ws h. refuses (state_of ws) (many_malformed ws h);
    }
