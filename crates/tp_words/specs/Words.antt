-- A stream's state as words that the caller keeps: the limit, how many ranges are held, whether an end is known (0 or 1), the end, how many
-- segments were accepted, and for each range that can be held its start, its end and its number. Assumes nothing: these are definitions.
use Rattle.std.specs.Prelude.{ℕ, zero, suc, ◌+◌, ◌*◌, Bool, ◌||◌, cond, List, [], ◌∷◌, ◌++◌, length, drop, get_or, ltb, eqb, Option, Some, None}
use Rattle.tp_machine.specs.declared.TpRange.{TpRange}
use Rattle.tp_machine.specs.Machine.{most, State, previous}
use Rattle.tp_stream.specs.declared.TpStream.{TpStream}
use Rattle.tp_stream.specs.Stream.{view, blank}

-- as many words as a state has
abbrev pub size : ℕ
size = 5 + 3 * most

-- ---- the state that some words hold

-- the range at place i, behind the first five words
abbrev pub range_at : List ℕ → ℕ → TpRange
range_at ws i = record { start = get_or ws (5 + 3 * i) 0; end = get_or ws (5 + 3 * i + 1) 0; number = get_or ws (5 + 3 * i + 2) 0 }

-- those at the first n places
unfoldable pub ranges_in : List ℕ → ℕ → List TpRange
ranges_in ws zero = []
ranges_in ws (suc n) = ranges_in ws n ++ (range_at ws n ∷ [])

abbrev pub end_of : (known end : ℕ) → Option ℕ
end_of known end = cond (eqb known 0) None (Some end)

-- too few words, or neither 0 nor 1 where it is told whether an end is known
abbrev pub unfit : List ℕ → Bool
unfit ws = ltb (length ws) size || ltb 1 (get_or ws 2 0)

-- a state that is malformed: it holds nothing, and its end is past its limit
abbrev pub outside : TpStream
outside = record { limit = 0; ranges = blank.ranges; count = 0; end = Some 1; accepted = 0 }

unfoldable pub held_in : List ℕ → TpStream
held_in ws =
    record {
      limit = get_or ws 0 0;
      ranges = ranges_in ws most;
      count = get_or ws 1 0;
      end = end_of (get_or ws 2 0) (get_or ws 3 0);
      accepted = get_or ws 4 0;
    }

-- words that are unfit hold a malformed state
unfoldable pub stream_of : List ℕ → TpStream
stream_of ws = cond (unfit ws) outside (held_in ws)

-- the machine's state that they hold
abbrev pub state_of : List ℕ → State
state_of ws = view (stream_of ws)

-- ---- the words of a state

unfoldable pub flat : List TpRange → List ℕ
flat [] = []
flat (r ∷ rs) = r.start ∷ r.end ∷ r.number ∷ flat rs

abbrev pub known : Option ℕ → ℕ
known None = 0
known (Some e) = 1

unfoldable pub words_of : TpStream → List ℕ
words_of s = s.limit ∷ s.count ∷ known s.end ∷ previous s.end ∷ s.accepted ∷ flat s.ranges

-- too few words, or a stream that counts more ranges than may be held (no accepted call comes to one)
abbrev pub misfit : List ℕ → TpStream → Bool
misfit ws s = ltb (length ws) size || ltb most s.count

-- a stream put into lent words: where it does not fit they are left alone, and so are always those behind the state's
unfoldable pub put : List ℕ → TpStream → List ℕ
put ws s = cond (misfit ws s) ws (words_of s ++ drop size ws)
