-- Entries by their own fields, services and eventgroups; one entry read from 16 bytes; the runs' rule; the entry cursor.
-- Assumes nothing: these are definitions.
use Rattle.std.specs.Prelude.{ℕ, ◌+◌, ◌/◌, ◌%◌, Bool, not, ◌||◌, cond, List, length, get_or, ltb, leb, eqb}
use Rattle.numbers.specs.Refusals.{unexpected_end, unknown_entry, run_out_of_bounds}
use Rattle.numbers.specs.Answers.{Answer, accepted, refused, Verdict, pass, ◌>>=◌, ◌>>◌, refuse◌when◌else◌}
use Rattle.numbers.specs.Bytes.{at16, at24, at32}
use Rattle.sd_format.specs.Sequences.{all, next_at}
use Rattle.sd_format.specs.Options.{has}

-- what every entry has after its type
pub record Head : Type 0 where
  pub start1 : ℕ
  pub start2 : ℕ
  pub count1 : ℕ
  pub count2 : ℕ
  pub service : ℕ
  pub instance : ℕ
  pub major : ℕ
  pub ttl : ℕ

-- the last four bytes of an eventgroup entry: a reserved byte; a byte of the initial data bit, three reserved bits and the counter; the id
pub record Group : Type 0 where
  pub reserved : ℕ
  pub initial_data : Bool
  pub spare : ℕ
  pub counter : ℕ
  pub eventgroup : ℕ

pub data Entry : Type 0 where
  find : Head → (minor : ℕ) → Entry
  offer : Head → (minor : ℕ) → Entry
  subscribe : Head → Group → Entry
  subscribe_ack : Head → Group → Entry

abbrev pub head_of : Entry → Head
head_of (find h minor) = h
head_of (offer h minor) = h
head_of (subscribe h g) = h
head_of (subscribe_ack h g) = h

-- ---- one entry

-- how many bytes each entry takes
abbrev pub entry_length : ℕ
entry_length = 16

-- the initial data bit, by its value
abbrev pub initial_data_bit : ℕ
initial_data_bit = 0x80

unfoldable pub head : List ℕ → Head
head s =
    record {
      start1 = get_or s 1 0;
      start2 = get_or s 2 0;
      count1 = get_or s 3 0 / 16;
      count2 = get_or s 3 0 % 16;
      service = at16 s 4;
      instance = at16 s 6;
      major = get_or s 8 0;
      ttl = at24 s 9;
    }

unfoldable pub group : List ℕ → Group
group s =
    record {
      reserved = get_or s 12 0;
      initial_data = has (get_or s 13 0) initial_data_bit;
      spare = get_or s 13 0 / 16 % 8;
      counter = get_or s 13 0 % 16;
      eventgroup = at16 s 14;
    }

abbrev pub minor : List ℕ → ℕ
minor s = at32 s 12

-- types 0x00, 0x01 are service entries, 0x06, 0x07 eventgroup entries (as the Rust: any other refuses the whole payload; DIFFERENCES, R1)
unfoldable pub by_type : ℕ → List ℕ → Answer Entry
by_type type s =
    cond (eqb type 0x00) (accepted (find (head s) (minor s)))
    (cond (eqb type 0x01) (accepted (offer (head s) (minor s)))
    (cond (eqb type 0x06) (accepted (subscribe (head s) (group s)))
    (cond (eqb type 0x07) (accepted (subscribe_ack (head s) (group s)))
    (refused (unknown_entry type)))))

-- one entry alone: 1 with 16 below 16 bytes, then 11; later bytes aren't read
unfoldable pub read_entry : List ℕ → Answer Entry
read_entry s =
    refuse unexpected_end entry_length when ltb (length s) entry_length else
    by_type (get_or s 0 0) s

-- the entry cursor, at a byte offset
abbrev pub next_entry : List ℕ → ℕ → Answer Entry
next_entry = next_at read_entry

abbrev pub sixteen : Entry → ℕ
sixteen e = entry_length

-- ---- an entry beside `n` options

-- count 0 passes at any start; otherwise start plus count is at most the number of options (as the Rust: a run that leaves the list refuses
-- the whole payload; DIFFERENCES, R2)
unfoldable pub inside : (n start count : ℕ) → Bool
inside n start count = eqb count 0 || leb (start + count) n

unfoldable pub judge_run : (run n start count : ℕ) → Verdict
judge_run run n start count = refuse run_out_of_bounds run start count n when not (inside n start count) else pass

unfoldable pub judge_runs : (n start1 count1 start2 count2 : ℕ) → Verdict
judge_runs n start1 count1 start2 count2 = judge_run 1 n start1 count1 >> judge_run 2 n start2 count2

-- 11, 12 for run 1, 12 for run 2
unfoldable pub placed_entry : ℕ → List ℕ → Answer Entry
placed_entry n s = read_entry s >>= λ e. judge_runs n (head_of e).start1 (head_of e).count1 (head_of e).start2 (head_of e).count2 >> accepted e

unfoldable pub read_entries : ℕ → List ℕ → Answer (List Entry)
read_entries n s = all (placed_entry n) sixteen s
