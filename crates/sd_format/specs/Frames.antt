-- The options part: each option as its type and the bytes after it; all of them with the first refusal; the offset table; lookup and the
-- cursors. Assumes nothing: these are definitions.
use Rattle.std.specs.Prelude.{ℕ, ◌+◌, ◌-◌, Bool, true, not, ◌||◌, cond, List, ◌++◌, length, take, drop, get_or, replicate, ltb, leb, eqb}
use Rattle.numbers.specs.Refusals.{option_length, option_length_zero, unknown_option, index_too_large, nothing_there, table_misfit, few_slots}
use Rattle.numbers.specs.Answers.{Answer, accepted, refused, Verdict, pass, ◌>>=◌, ◌>>◌, refuse◌when◌else◌, further}
use Rattle.numbers.specs.Bytes.{at16}
use Rattle.sd_format.specs.Settings.{Settings}
use Rattle.sd_format.specs.Sequences.{all, next_at, starts, each_from}
use Rattle.sd_format.specs.Options.{discardable_bit, has}
use Rattle.sd_format.specs.Kinds.{Kind, configuration, load_balancing, address, unknown, kind_of, judge_content, unscanned, judge_kind}

-- an option as it stands in the part: its type, and the bytes after the type, the first of which carries the discardable bit
pub record Frame : Type 0 where
  pub type : ℕ
  pub body : List ℕ

-- the bytes that it takes: the length, the type and the body
abbrev pub size : Frame → ℕ
size f = 3 + length f.body

-- ---- one option

-- fewer than 3 bytes is 7, then 8, then 7 for its whole length
unfoldable pub frame : List ℕ → Answer Frame
frame s =
    refuse option_length 3 (length s) 0 when ltb (length s) 3 else
    refuse option_length_zero when eqb (at16 s 0) 0 else
    refuse option_length (3 + at16 s 0) (length s) 0 when ltb (length s) (3 + at16 s 0) else
    accepted (record { type = get_or s 2 0; body = take (at16 s 0) (drop 3 s) })

-- one option in front of `s`: its frame, then its kind, whose content is judged by `content`
unfoldable pub one_option : (content : Kind → List ℕ → Verdict) → List ℕ → Answer Frame
one_option content s = frame s >>= λ f. judge_kind content f.type f.body >> accepted f

abbrev pub read_option : Settings → List ℕ → Answer Frame
read_option g = one_option (judge_content g)

-- ---- all options

-- one option in front of the last bytes `s` of a part of `n` bytes: a refusal's place is counted from the part's start
unfoldable pub placed_option : Settings → ℕ → List ℕ → Answer Frame
placed_option g n s = further (n - length s) (read_option g s)

-- an unknown option needs the discardable bit, unless the discard setting is on (as the Rust: one that may not stand refuses the whole payload;
-- DIFFERENCES, R3)
unfoldable pub permitted : Settings → Kind → List ℕ → Bool
permitted g unknown body = g.discard || has (get_or body 0 0) discardable_bit
permitted g configuration body = true
permitted g load_balancing body = true
permitted g (address family role) body = true

unfoldable pub permit : Settings → Frame → Verdict
permit g f = refuse unknown_option f.type when not (permitted g (kind_of f.type) f.body) else pass

unfoldable pub all_options : Settings → List ℕ → Answer (List Frame)
all_options g s = all (placed_option g (length s)) size s

-- after all options decode, 10 for the first bad unknown
unfoldable pub read_options : Settings → List ℕ → Answer (List Frame)
read_options g s = all_options g s >>= λ fs. each_from size (permit g) 0 fs >> accepted fs

-- ---- the lent table

unfoldable pub slots : ℕ
slots = 347

-- as many zeros
unfoldable pub zeros : ℕ → List ℕ
zeros n = replicate n 0

-- 22 comes before all else
unfoldable pub lent : {A : Type 0} → List ℕ → Answer A → Answer A
lent tab a = refuse few_slots (length tab) when ltb (length tab) slots else a

-- what the 347 slots hold after a call that read these options: their offsets and zeros behind them, or zeros alone after a refusal
unfoldable pub filled : Answer (List Frame) → List ℕ
filled (accepted fs) = starts size 0 fs ++ zeros (slots - length fs)
filled (refused r) = zeros slots

-- the whole lent table after such a call: nothing has changed after 22, and slots past 347 are never touched
unfoldable pub table_after : List ℕ → Answer (List Frame) → List ℕ
table_after tab a = cond (ltb (length tab) slots) tab (filled a ++ drop slots tab)

-- the index alone: 13, then the options (22 comes before, and 10 never)
unfoldable pub read_index : Settings → List ℕ → Answer (List Frame)
read_index g s =
    refuse index_too_large (length s) when ltb 1388 (length s) else
    all_options g s

-- ---- lookup and the cursors

-- any refusal becomes 21
unfoldable pub misfit : Answer Frame → Answer Frame
misfit (accepted f) = accepted f
misfit (refused r) = refused table_misfit

-- the option of number `k` among `count`, by a table
unfoldable pub look_up : (s tab : List ℕ) (count k : ℕ) → Answer Frame
look_up s tab count k =
    refuse nothing_there when leb count k else
    refuse table_misfit when leb slots k else
    refuse table_misfit when leb (length tab) k else
    misfit (one_option unscanned (drop (get_or tab k 0) s))

-- the option cursor, at a byte offset
abbrev pub next_option : Settings → List ℕ → ℕ → Answer Frame
next_option g = next_at (read_option g)

-- the run cursor: the number of the next option, and how many are left
pub record Run : Type 0 where
  pub next : ℕ
  pub left : ℕ

unfoldable pub next_of_run : (s tab : List ℕ) (count : ℕ) → Run → Answer Frame
next_of_run s tab count r =
    refuse nothing_there when eqb r.left 0 else
    look_up s tab count r.next

abbrev pub along : Frame → Run → Run
along f r = record { next = r.next + 1; left = r.left - 1 }
