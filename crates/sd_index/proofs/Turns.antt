-- The turns of the pass over the options, on plain values: what the loop keeps, and what it comes to. Assumes nothing.
use Rattle.std.specs.Prelude.{Result, Ok, Err, MatchResult}
use Rattle.std.specs.Result.{is_ok}
use mathlib.Core.Path.{◌≡◌, refl, sym, ap, ◌∙◌}
use mathlib.Core.Bool.{true, false}
use mathlib.Core.List.{List, [], ◌∷◌, ◌++◌, append_assoc, append-nil}
use Prim.Native.Nat.{ℕ, ◌+◌, ◌*◌, ◌-◌, ◌≤◌, ◌<◌}
use native.Mathlib.Omega.{arith}
use lib.ListN.{length, drop, set, length-append, length-drop}
use lib.Seq.{drop-drop}
use Rattle.numbers.specs.Refusals.{Refusal, told, moved_place, moved}
use Rattle.numbers.specs.Answers.{Answer, accepted, refused, Verdict, pass, ◌>>=◌, ◌>>◌, further, given}
use Rattle.sd_format.specs.Settings.{Settings}
use Rattle.sd_format.specs.Sequences.{all, starts, each_from}
use Rattle.numbers.proofs.AnswerLaws.{moved_twice}
use Rattle.sd_format.specs.Kinds.{kind_of, judge_content}
use Rattle.sd_format.specs.Frames.{Frame, size, one_option, read_option, placed_option, permit, all_options, read_options}
use Rattle.sd_format.proofs.SequenceLaws.{all_end, all_stop, all_more, length_starts}
use Rattle.sd_format.proofs.OptionLaws.{placed_plain}
use Rattle.sd_format.proofs.FaultLaws.{option_told}
use Rattle.refusal.specs.declared.Refusal as code
use Rattle.refusal.specs.Said.{said, verdict_said, most, moved_capped}
use Rattle.refusal.proofs.PlaceLaws.{uncapped}
use Rattle.sd_option.specs.declared.reading.OptionHead.{OptionHead}
use Rattle.sd_option.specs.Reading.{head_of, option_said, behind_type, protocol_verdict, string_verdict}
use Rattle.sd_option.proofs.ReadingLaws.{Found, front, found_head, not_found, refused_before, string_refused, string_passed}
use Rattle.sd_index.specs.Permission.{permit_told}
use Rattle.sd_index.specs.Indexed.{Sweeps}
use Rattle.sd_index.proofs.SlotLaws.{set_next}
use Rattle.sd_index.proofs.PermissionLaws.{told_permits}

-- What the loop keeps at place `at`, after `n` options: those read so far stand in front of those that are read later, and so do their offsets and
-- the verdict `v` on them.
pub record Turn (g : Settings) (s tab₀ tab : List ℕ) (at n : ℕ) (v : Verdict) : Type 0 where
  pub done : List Frame
  pub count : length done ≡ n
  pub whole : all_options g s ≡ given (λ later. done ++ later) (all (placed_option g (length s)) size (drop at s))
  pub places : (later : List Frame) → starts size 0 (done ++ later) ≡ starts size 0 done ++ starts size at later
  pub permits : (later : List Frame) → each_from size (permit g) 0 (done ++ later) ≡ (v >> each_from size (permit g) at later)
  pub table : tab ≡ starts size 0 done ++ drop n tab₀
  pub few : 4 * n ≤ at
  pub within : at ≤ length s

none_before : (a : Answer (List Frame)) → a ≡ given (λ later. [] ++ later) a
unfolding given
none_before (accepted l) = refl
none_before (refused r) = refl

pub turn_starts : (g : Settings) (s tab : List ℕ) → Turn g s tab tab 0 0 pass
unfolding starts all_options ◌>>◌
turn_starts g s tab =
    record {
      done = [];
      count = refl;
      whole = none_before _;
      places = λ later. refl;
      permits = λ later. refl;
      table = refl;
      few = omega arith;
      within = omega arith;
    }

-- the verdict so far is `p`: the first that may not stand counts
pub bad_stays : (p : Result (Unit {0}) code.Refusal) (w : Verdict) → is_ok p ≡ false → verdict_said p ≡ (verdict_said p >> w)
unfolding ◌>>◌
bad_stays (Ok u) w bad = cc
bad_stays (Err r) w bad = refl

pub good_asks : (p : Result (Unit {0}) code.Refusal) (w u : Verdict) → is_ok p ≡ true → u ≡ w → u ≡ (verdict_said p >> w)
unfolding ◌>>◌
good_asks (Ok x) w u good same = same
good_asks (Err r) w u good same = cc

pub good_stays : (p : Result (Unit {0}) code.Refusal) (w : Verdict) → is_ok p ≡ true → pass ≡ w → verdict_said p ≡ (verdict_said p >> w)
unfolding ◌>>◌
good_stays (Ok x) w good same = same
good_stays (Err r) w good same = cc

then_assoc : (u v w : Verdict) → ((u >> v) >> w) ≡ (u >> (v >> w))
unfolding ◌>>◌
then_assoc (accepted t) v w = refl
then_assoc (refused r) v w = refl

one_more : (done : List Frame) (f : Frame) (a : Answer (List Frame))
    → given (λ later. done ++ later) (a >>= λ later. accepted (f ∷ later)) ≡ given (λ later. (done ++ (f ∷ [])) ++ later) a
unfolding given ◌>>=◌
one_more done f (accepted l) = rw append_assoc
one_more done f (refused r) = refl

-- what the code has of the option in front of `s`, which it reads in `b`: its head, and its string's verdict
module _ {s b : List ℕ} (g : Settings) (there : b ≡ s) where
  abbrev HeadSaid : Answer OptionHead → Type 0
  HeadSaid a = a ≡ given head_of (one_option (protocol_verdict g) b)

  head_there : (a : Answer OptionHead) → HeadSaid a → a ≡ given head_of (one_option (protocol_verdict g) s)
  head_there a read = read ∙ ap (λ (b : List ℕ). given head_of (one_option (protocol_verdict g) b)) there

  string_there : (h : OptionHead) (v : Verdict) → v ≡ string_verdict (kind_of h.code) (behind_type b h.size) → v ≡ string_verdict (kind_of h.code) (behind_type s h.size)
  string_there h v scanned = scanned ∙ ap (λ (b : List ℕ). string_verdict (kind_of h.code) (behind_type b h.size)) there

  pub head_read : (a : Result OptionHead code.Refusal) (h : OptionHead) → HeadSaid (option_said a)
      → MatchResult a (λ x. ◌≡◌ {A = Result OptionHead code.Refusal} (Ok h) (Ok x)) (λ e. ⊥) → accepted h ≡ given head_of (one_option (protocol_verdict g) s)
  head_read (Ok x) h read same = ap option_said same ∙ head_there (accepted x) read
  head_read (Err e) h read none = absurd none

  pub whole_read : (a : Result OptionHead code.Refusal) (h : OptionHead) (v : Result (Unit {0}) code.Refusal) → HeadSaid (option_said a)
      → MatchResult a (λ x. ◌≡◌ {A = Result OptionHead code.Refusal} (Ok h) (Ok x)) (λ e. ⊥) → verdict_said v ≡ string_verdict (kind_of h.code) (behind_type b h.size)
      → MatchResult v (λ u. ◌≡◌ {A = Result (Unit {0}) code.Refusal} (Ok tt) (Ok u)) (λ e. ⊥) → Found (judge_content g) s h
  whole_read a h (Ok u) read taken scanned clean =
      string_passed g s h (found_head (protocol_verdict g) s h (sym (head_read a h read taken))) (Ok u) (string_there h pass scanned) refl
  whole_read a h (Err e) read taken scanned none = absurd none

module _ {g : Settings} {s tab₀ tab : List ℕ} {at n : ℕ} {v : Verdict} (t : Turn g s tab₀ tab at n v) where
  -- ---- within the bytes, by the option that stands there

  module _ (more : at < length s) where
    left : 1 ≤ length (drop at s)
    left = rw length-drop (omega arith)

    here : length s - length (drop at s) ≡ at
    here = rw length-drop (omega arith)

    -- among all, the option there is read as it is alone, but for the place
    among : placed_option g (length s) (drop at s) ≡ further at (read_option g (drop at s))
    unfolding placed_option
    among = ap (λ (n : ℕ). further n (read_option g (drop at s))) here

    -- it is refused alone, and `q` is what the code had of that, `r`, moved by `by` bytes
    pub turn_stops : (alone r : Refusal) (by : ℕ) → read_option g (drop at s) ≡ refused alone → moved by r ≡ moved at alone → length s ≤ most
        → (q : code.Refusal) → said q ≡ moved_capped by r → Sweeps g s tab₀ tab (Err q)
    unfolding read_options given further ◌>>=◌
    turn_stops alone r by e same few q is =
        let (p, there, low) = option_told g (drop at s) alone e in
        let low_here : p ≤ length s - at = rw length-drop at low in
        let told_there : (moved by r).place ≡ told (at + p) = ap (λ (x : Refusal). x.place) same ∙ ap (moved_place at) there in
        let place : said q ≡ moved at alone = is ∙ uncapped by r (at + p) told_there (omega arith) ∙ same in
        let stop : placed_option g (length s) (drop at s) ≡ refused (said q) = among ∙ rw e (ap refused (sym place)) in
        let stops : all_options g s ≡ refused (said q) = t.whole ∙ ap (given (λ later. t.done ++ later)) (all_stop (placed_option g (length s)) size (drop at s) (said q) left stop) in
        rw stops refl

    module _ {b : List ℕ} (there : b ≡ drop at s) where
      -- before its string
      pub first_stops : (a : Result OptionHead code.Refusal) (q : code.Refusal) → length s ≤ most → option_said a ≡ given head_of (one_option (protocol_verdict g) b)
          → MatchResult a (λ h. ◌≡◌ {A = Result OptionHead code.Refusal} (Err q) (Ok h)) (λ e. said q ≡ moved_capped at (said e)) → read_options g s ≡ refused (said q)
      first_stops (Ok h) q few read other = cc
      first_stops (Err e) q few read is =
          let alone = not_found (protocol_verdict g) (drop at s) (Err e) (head_there g there (refused (said e)) read) e refl in
          turn_stops (said e) (said e) at (refused_before g (drop at s) (said e) alone) refl few q is

      -- or by it
      pub string_stops : (h : OptionHead) (v : Result (Unit {0}) code.Refusal) (q : code.Refusal) → length s ≤ most
          → accepted h ≡ given head_of (one_option (protocol_verdict g) (drop at s)) → verdict_said v ≡ string_verdict (kind_of h.code) (behind_type b h.size)
          → MatchResult v (λ u. ◌≡◌ {A = Result (Unit {0}) code.Refusal} (Err q) (Ok u)) (λ e. said q ≡ moved_capped (at + 4) (said e)) → read_options g s ≡ refused (said q)
      string_stops h (Ok u) q few read scanned other = cc
      string_stops h (Err e) q few read scanned is =
          let f = found_head (protocol_verdict g) (drop at s) h (sym read) in
          turn_stops (moved 4 (said e)) (said e) (at + 4) (string_refused g (drop at s) h f (Err e) (string_there g there h (refused (said e)) scanned) e refl)
          (sym (moved_twice at 4 (said e))) few q is

    module _ (h : OptionHead) (found : Found (judge_content g) (drop at s) h) where
      pub turn_within : (4 ≤ h.size) × (at + h.size ≤ length s)
      turn_within = let w = rw length-drop at found.within in (found.some, omega arith)

      f : Frame
      f = front (drop at s) (h.size - 3)

      size_told : size f ≡ h.size
      unfolding f
      size_told = ap (λ (x : OptionHead). x.size) found.head

      rest : all (placed_option g (length s)) size (drop at s) ≡ (all (placed_option g (length s)) size (drop (at + h.size) s) >>= λ later. accepted (f ∷ later))
      unfolding f
      rest =
          all_more (placed_option g (length s)) size (drop at s) f left (omega (arith, turn_within, size_told)) ((placed_plain g (length s) (drop at s) f).1 found.reads)
          ∙ rw (size_told, drop-drop h.size at s)

      permit_is : permit g f ≡ permit_told g h
      unfolding f
      permit_is = told_permits g f ∙ ap (permit_told g) found.head

      pub turn_goes : n < length tab₀ → (tab' : List ℕ) → tab' ≡ set tab n at → (w : Verdict) → w ≡ (v >> further at (permit_told g h))
          → Turn g s tab₀ tab' (at + h.size) (n + 1) w
      unfolding starts each_from
      turn_goes free tab' written w both =
          let next : (later : List Frame) → starts size 0 (t.done ++ (f ∷ later)) ≡ starts size 0 t.done ++ (at ∷ starts size (at + h.size) later) =
          λ later. t.places (f ∷ later) ∙ rw size_told refl in
          let asks : (later : List Frame) → each_from size (permit g) 0 (t.done ++ (f ∷ later)) ≡ (v >> (further at (permit_told g h) >> each_from size (permit g) (at + h.size) later)) =
          λ later. t.permits (f ∷ later)
          ∙ ap (λ (w : Verdict). v >> (further at w >> each_from size (permit g) (at + size f) later)) permit_is
          ∙ ap (λ (k : ℕ). v >> (further at (permit_told g h) >> each_from size (permit g) (at + k) later)) size_told in
          record {
            done = t.done ++ (f ∷ []);
            count = simp length-append (omega (arith, t.count));
            whole = t.whole ∙ ap (given (λ later. t.done ++ later)) rest ∙ one_more t.done f _;
            places = λ later. rw (append_assoc, next later, next [], append_assoc) refl;
            permits = λ later. rw (append_assoc, both, then_assoc) (asks later);
            table =
                written
                ∙ ap (λ (l : List ℕ). set l n at) t.table
                ∙ set_next (starts size 0 t.done) tab₀ n at (length_starts size 0 t.done ∙ t.count) free
                ∙ ap (λ (l : List ℕ). l ++ drop (n + 1) tab₀) (sym (next []));
            few = omega (arith, t.few, turn_within);
            within = turn_within.1;
          }

  -- ---- at the end of the bytes, by the verdict on all options

  module _ (end : length s ≤ at) where
    ends : all_options g s ≡ accepted t.done
    unfolding all_options given
    ends =
        t.whole
        ∙ ap (given (λ later. t.done ++ later)) (all_end (placed_option g (length s)) size (drop at s) (rw length-drop (omega arith)))
        ∙ ap accepted (append-nil t.done)

    judged : each_from size (permit g) 0 t.done ≡ (v >> pass)
    unfolding each_from
    judged = ap (each_from size (permit g) 0) (sym (append-nil t.done)) ∙ t.permits []

    pub turn_refuses : (q : code.Refusal) → v ≡ refused (said q) → read_options g s ≡ refused (said q)
    unfolding read_options ◌>>=◌ ◌>>◌
    turn_refuses q e = rw (ends, judged, e) refl

    pub turn_ends : v ≡ pass → Sweeps g s tab₀ tab (Ok n)
    unfolding read_options ◌>>=◌ ◌>>◌
    turn_ends e = (t.done, rw (ends, judged, e) refl, t.count, t.table)
