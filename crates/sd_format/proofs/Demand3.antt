-- Demand 3, clause by clause, and what the cursors hand out. Assumes nothing.
use mathlib.Core.Path.{◌≡◌, sym, ap, ◌∙◌, subst}
use mathlib.Core.Logic.{◌↔◌}
use mathlib.Core.List.{List, map}
use Prim.Native.Nat.{ℕ, ◌≤◌}
use native.Mathlib.Omega.{arith}
use lib.ListN.{length, length-map}
use Rattle.numbers.specs.Answers.{Answer, accepted, given}
use Rattle.numbers.specs.Bytes.{Bytes}
use Rattle.numbers.proofs.AnswerLaws.{accepted_inj, given_accepted}
use Rattle.sd_format.specs.Settings.{Settings}
use Rattle.sd_format.specs.Sequences.{HandsOut, behind, counted}
use Rattle.sd_format.specs.Frames.{Frame, size, read_option, placed_option, all_options, slots, table_after, look_up, next_option}
use Rattle.sd_format.specs.Fields.{fields}
use Rattle.sd_format.specs.Entries.{sixteen, read_entry, placed_entry, read_entries, next_entry}
use Rattle.sd_format.specs.Layout.{Payload, wire}
use Rattle.sd_format.specs.Payload.{entries_part, options_part, Reading, read_payload, frames_of, shown, handed_out}
use Rattle.sd_format.specs.Demand3.{LaidOut, table_left, Demand3, NoStricter, CursorsAgree}
use Rattle.sd_format.proofs.SequenceLaws.{counted_map, cursor_hands}
use Rattle.sd_format.proofs.OptionLaws.{no_stricter, placed_plain, placed_within, read_parts, options_read, looked_up, run_hands}
use Rattle.sd_format.proofs.EntryLaws.{entry_plain, entry_long}
use Rattle.sd_format.proofs.PayloadLaws.{lay_handed, ReadSays, read_says, read_lay, options_part_length, bytes_options}

module _ (g : Settings) (s : List ℕ) (b : Bytes s) where
  handed_out_is : (p : Payload) → (handed_out g s ≡ accepted p) ↔ LaidOut g s p
  unfolding handed_out
  handed_out_is p = (
    (λ e. let (r, read, same) = given_accepted shown _ p e in subst (LaidOut g s) same (read_lay g s r b read)),
    (λ h. rw (← h.1) (lay_handed g p h.0)),
  )

  -- ---- over an accepted reading

  module _ (r : Reading) (e : read_payload g s ≡ accepted r) where
    says : ReadSays g s r
    says = read_says g s r e

    all_read : all_options g (options_part s) ≡ accepted r.frames
    all_read = ((read_parts g _ r.frames).0 says.frames_read).0

    short : length (options_part s) ≤ 1388
    short = rw (options_part_length s says.sizes_fit) says.sizes_fit.short_options

    wires : map wire (map fields r.frames) ≡ r.frames
    wires = (options_read g (options_part s) (bytes_options s b) r.frames says.frames_read).2

    left : (tab : List ℕ) → table_left g s tab ≡ table_after tab (accepted r.frames)
    unfolding given
    left tab = ap (λ (a : Answer Reading). table_after tab (frames_of a)) e

    found : (tab : List ℕ) → slots ≤ length tab → (k : ℕ)
        → look_up (options_part s) (table_left g s tab) (length (shown r).options) k ≡ given wire (counted (shown r).options k)
    unfolding shown
    found tab long k =
        rw (left tab, length-map r.frames fields)
        (looked_up g (options_part s) r.frames all_read short tab long k
        ∙ ap (λ (fs : List Frame). counted fs k) (sym wires) ∙ counted_map wire (map fields r.frames) k)

    entries_handed : HandsOut (next_entry (entries_part s)) (behind sixteen) 0 r.entries
    unfolding read_entries
    entries_handed =
        cursor_hands (placed_entry (length r.frames)) sixteen 16 (omega arith) (λ t x h. (omega arith, entry_long _ t x h))
        read_entry (entry_plain _) (entries_part s) 0 r.entries says.entries_read

    options_handed : (h : Settings) → NoStricter h g → HandsOut (next_option h (options_part s)) (behind size) 0 r.frames
    unfolding all_options
    options_handed h less =
        cursor_hands (placed_option g _) size 4 (omega arith) (placed_within g _) (read_option h) (λ t f e. no_stricter h g less t f ((placed_plain g _ t f).0 e))
        (options_part s) 0 r.frames all_read

    cursors_of : CursorsAgree g s (shown r)
    unfolding shown
    cursors_of =
        record {
          entries = entries_handed;
          options = λ h less. rw wires (options_handed h less);
          runs = λ tab long start count.
              rw (left tab, length-map r.frames fields, wires) (run_hands g (options_part s) r.frames all_read short tab long start count);
        }

  -- ---- the statements

  pub demand3 : Demand3 g s
  unfolding handed_out
  demand3 =
      record {
        exactly = ((λ h. (h.0, (handed_out_is h.0).0 h.1)), (λ h. (h.0, (handed_out_is h.0).1 h.1)));
        only_one = λ p q h k. accepted_inj p q (sym ((handed_out_is p).1 h) ∙ (handed_out_is q).1 k);
        handed = handed_out_is;
        looked_up = λ p h tab long k.
            let (r, read, same) = given_accepted shown _ p h in
            subst (λ (q : Payload). look_up (options_part s) (table_left g s tab) (length q.options) k ≡ given wire (counted q.options k)) same (found r read tab long k);
      }

  pub cursors : (p : Payload) → handed_out g s ≡ accepted p → CursorsAgree g s p
  unfolding handed_out
  cursors p h = let (r, read, same) = given_accepted shown _ p h in subst (CursorsAgree g s) same (cursors_of r read)
