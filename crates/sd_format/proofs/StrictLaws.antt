-- The strict setting: off, every reading is as it was before there was one; on, it refuses more and changes nothing else. Assumes nothing.
use mathlib.Core.Path.{◌≡◌, refl, sym, ap, ◌∙◌}
use mathlib.Core.Bool.{Bool, true, false, false≢true}
use mathlib.Core.Logic.{◌↔◌}
use mathlib.Core.List.{List, [], ◌∷◌, map}
use Prim.Native.Nat.{ℕ}
use lib.ListN.{length, take, drop}
use lib.Dec.{ltb}
use Rattle.numbers.specs.Refusals.{index_too_large}
use Rattle.numbers.specs.Answers.{Answer, accepted, pass, ◌>>=◌, ◌>>◌, refuse◌when◌else◌, given, All}
use Rattle.numbers.specs.Bytes.{Bytes}
use Rattle.numbers.proofs.AnswerLaws.{given_accepted}
use Rattle.sd_format.specs.Settings.{Settings}
use Rattle.sd_format.specs.Sequences.{next_at, each_from}
use Rattle.sd_format.specs.Options.{Family, Role, Opt, configuring, balancing, addressed, unrecognised}
use Rattle.sd_format.specs.Kinds.{Kind, configuration, load_balancing, address, unknown, judge_protocol, judge_content}
use Rattle.sd_format.specs.Frames.{Frame, size, one_option, permit, all_options, read_options, read_index, table_after}
use Rattle.sd_format.specs.Entries.{read_entries}
use Rattle.sd_format.specs.Layout.{OptionFits, Payload, Fits, wire}
use Rattle.sd_format.specs.Payload.{sizes, entries_length, options_length, entries_part, options_part, Reading, read_payload, frames_of, shown, handed_out, header, read_message}
use Rattle.sd_format.specs.Demand3.{undecided}
use Rattle.sd_format.specs.Before.{string_judged, all_before, options_before, payload_before, AsBefore, without_strict, Carries, OnlyRefusesMore}
use Rattle.sd_format.proofs.OptionLaws.{all_judged, options_read}
use Rattle.sd_format.proofs.PayloadLaws.{read_says, bytes_options}
use Rattle.sd_format.proofs.Demand3.{demand3}
use Rattle.sd_format.proofs.CallLaws.{index_exact}

-- ---- off

protocol_off : (strict : Bool) (family : Family) (role : Role) (body : List ℕ) → strict ≡ false → judge_protocol strict family role body ≡ pass
unfolding judge_protocol refuse◌when◌else◌
protocol_off strict family role body off = rw off refl

module _ (g : Settings) (off : g.strict ≡ false) where
  content_before : (k : Kind) (body : List ℕ) → judge_content g k body ≡ string_judged k body
  unfolding judge_content
  content_before configuration body = refl
  content_before load_balancing body = refl
  content_before (address family role) body = protocol_off g.strict family role body off
  content_before unknown body = refl

  all_as_before : (s : List ℕ) → all_options g s ≡ all_before s
  all_as_before s = all_judged g string_judged s content_before

  options_as_before : (s : List ℕ) → read_options g s ≡ options_before g s
  unfolding read_options
  options_as_before s = ap (λ (a : Answer (List Frame)). a >>= λ fs. each_from size (permit g) 0 fs >> accepted fs) (all_as_before s)

  payload_as_before : (s : List ℕ) → read_payload g s ≡ payload_before g s
  unfolding read_payload
  payload_as_before s =
      ap (λ (a : Answer (List Frame)). sizes (length s) (entries_length s) (options_length s) >>
      (a >>= λ fs. read_entries (length fs) (entries_part s) >>= λ es. accepted (record { opening = take 4 s; entries = es; frames = fs })))
      (options_as_before (options_part s))

  pub as_before : (s : List ℕ) → AsBefore g s
  unfolding read_index read_message
  as_before s =
      record {
        option = λ i. one_option (λ k body. content_before k body i) s;
        cursor = λ at i. next_at (one_option (λ k body. content_before k body i)) s at;
        options = options_as_before s;
        index = λ i. refuse index_too_large (length s) when ltb 1388 (length s) else all_as_before s i;
        payload = payload_as_before s;
        message = ap (λ (a : Answer Reading). header s >> a) (payload_as_before (drop 16 s));
      }

-- ---- on

-- an option fits exactly where it fits without the setting and, under it, its protocol does
option_fits : (g : Settings) (o : Opt) → OptionFits g o ↔ (OptionFits (without_strict g) o × (g.strict ≡ true → Carries o))
option_fits g (configuring b items) = ((λ h. (h, (λ on. tt))), (λ h. h.0))
option_fits g (balancing b priority weight) = ((λ h. (h, (λ on. tt))), (λ h. h.0))
option_fits g (addressed family role b a reserved protocol port) = (
  (λ h. ((h.0, h.1, (λ on. absurd (false≢true on))), h.2)),
  (λ h. (h.0.0, h.0.1, h.1)),
)
option_fits g (unrecognised type b rest) = ((λ h. (h, (λ on. tt))), (λ h. h.0))

options_fit : (g : Settings) (os : List Opt) → All (OptionFits g) os ↔ (All (OptionFits (without_strict g)) os × (g.strict ≡ true → All Carries os))
options_fit g [] = ((λ h. (tt, (λ on. tt))), (λ h. tt))
options_fit g (o ∷ os) =
    let one = option_fits g o in
    let later = options_fit g os in (
      (λ h.
          let (fits, carries) = one.0 h.0 in
          let (all_fit, all-carry) = later.0 h.1 in
          ((fits, all_fit), (λ on. (carries on, all-carry on)))),
      (λ h. (one.1 (h.0.0, (λ on. (h.1 on).0)), later.1 (h.0.1, (λ on. (h.1 on).1)))),
    )

payload_fits : (g : Settings) (p : Payload) → Fits g p ↔ (Fits (without_strict g) p × (g.strict ≡ true → All Carries p.options))
payload_fits g p = (
  (λ h. let (fits, carries) = (options_fit g p.options).0 h.options_fit in (with_options (without_strict g) h fits, carries)),
  (λ h. with_options g h.0 ((options_fit g p.options).1 (h.0.options_fit, h.1))),
)
  where
    -- of the conditions of a payload only those of its options know the settings
    with_options : {k : Settings} (n : Settings) → Fits k p → All (OptionFits n) p.options → Fits n p
    with_options n h fits =
        record {
          five_bits = h.five_bits;
          entries_short = h.entries_short;
          options_short = h.options_short;
          all_short = h.all_short;
          entries_fit = h.entries_fit;
          options_fit = fits;
        }

module _ (g : Settings) (s : List ℕ) (b : Bytes s) where
  abbrev lenient : Settings
  lenient = without_strict g

  payload_accepted : (p : Payload) → (handed_out g s ≡ accepted p) ↔ ((handed_out lenient s ≡ accepted p) × (g.strict ≡ true → All Carries p.options))
  payload_accepted p =
      let on = (demand3 g s b).handed p in
      let off = (demand3 lenient s b).handed p in
      let fits = payload_fits g p in (
        (λ e. let (fit, laid) = on.0 e in let (without, carries) = fits.0 fit in (off.1 (without, laid), carries)),
        (λ (e, carries). let (fit, laid) = off.0 e in on.1 (fits.1 (fit, carries), laid)),
      )

  -- the frames of what was accepted are those of its options
  frames_are : (n : Settings) (p : Payload) → handed_out n s ≡ accepted p → frames_of (read_payload n s) ≡ accepted (map wire p.options)
  unfolding handed_out given shown
  frames_are n p e =
      let (r, read, same) = given_accepted shown (read_payload n s) p e in
      let says = read_says n s r read in
      let (_, _, back) = options_read n (options_part s) (bytes_options s b) r.frames says.frames_read in
      ap frames_of read ∙ ap accepted (sym back) ∙ ap (λ (q : Payload). accepted (map wire q.options)) same

  pub only_refuses_more : OnlyRefusesMore g s
  only_refuses_more =
      record {
        payload = payload_accepted;
        index = λ os.
            let on = (index_exact g s b).handed os in
            let off = (index_exact lenient s b).handed os in
            let fits = options_fit (undecided g) os in (
              (λ e. let (short, fit, laid) = on.0 e in let (without, carries) = fits.0 fit in (off.1 (short, without, laid), carries)),
              (λ (e, carries). let (short, fit, laid) = off.0 e in on.1 (short, fits.1 (fit, carries), laid)),
            );
        table = λ p e tab. ap (table_after tab) (frames_are g p e ∙ sym (frames_are lenient p ((payload_accepted p).0 e).0));
      }
