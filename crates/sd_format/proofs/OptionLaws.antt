-- The options part: what is accepted is what is laid out; looking up is counting; what the run cursor hands out. Assumes nothing.
use mathlib.Core.Path.{◌≡◌, refl, sym, ap, ◌∙◌, subst}
use mathlib.Core.Bool.{Bool, true, false}
use mathlib.Core.Logic.{◌↔◌}
use mathlib.Core.List.{List, [], ◌∷◌, ◌++◌, map}
use Prim.Native.Nat.{ℕ, zero, suc, ◌+◌, ◌*◌, ◌-◌, ◌≤◌, ◌<◌}
use native.Mathlib.Omega.{arith}
use lib.ListN.{length, take, drop, get_or, drop_of_length-le}
use lib.Dec.{leb}
use borrow.Author.Tests.{lt-leb, leb-true, leb-false, ne_eqb}
use Rattle.numbers.specs.Answers.{Answer, accepted, Verdict, pass, further, All}
use Rattle.numbers.specs.Bytes.{Bytes, be16}
use Rattle.numbers.proofs.AnswerLaws.{when_hit, when_pass, accepted_inj, bind_accepted, bind_pass, then_accepted, then_pass, refuse_pass, further_accepted}
use Rattle.numbers.proofs.ByteLaws.{bytes_left, bytes_right}
use Rattle.sd_format.specs.Settings.{Settings}
use Rattle.sd_format.specs.Sequences.{all, starts, each_from, counted, HandsOut, ended, gave}
use Rattle.sd_format.specs.Options.{Opt}
use Rattle.sd_format.specs.Kinds.{Kind, configuration, load_balancing, address, unknown, kind_of, judge_content, unscanned, judge_kind}
use Rattle.sd_format.specs.Frames.{Frame, size, one_option, read_option, placed_option, permitted, permit, all_options, read_options, slots, table_after, misfit, look_up, next_of_run, along}
use Rattle.sd_format.specs.Fields.{fields}
use Rattle.sd_format.specs.Layout.{lay_all, lay_options, wire, OptionFits}
use Rattle.sd_format.specs.Demand3.{NoStricter}
use Rattle.sd_format.proofs.SequenceLaws.{all_exact, all_laid_read, all_count, each_from_pass, counted_past, counted_in, counted_drop, read_start}
use Rattle.sd_format.proofs.TableLaws.{Few, after_long, slot, offset_slot}
use Rattle.sd_format.proofs.FrameLaws.{lay_frame, length_frame, Sound, option_lay, option_says, option_within}
use Rattle.sd_format.proofs.FieldLaws.{protocol_judged, wired, shown}

-- ---- all options, as type and bytes

module _ (g : Settings) where
  -- an option among others is accepted as it is alone
  pub placed_plain : (n : ℕ) (t : List ℕ) (f : Frame) → (placed_option g n t ≡ accepted f) ↔ (read_option g t ≡ accepted f)
  unfolding placed_option
  placed_plain n t f = further_accepted _ (read_option g t) f

  pub placed_lay : (n : ℕ) (f : Frame) (rest : List ℕ) → Sound (judge_content g) f → placed_option g n (lay_frame f ++ rest) ≡ accepted f
  placed_lay n f rest w = (placed_plain n _ f).1 (option_lay (judge_content g) f rest w)

  pub placed_back : (n : ℕ) (t : List ℕ) (f : Frame) → Bytes t → placed_option g n t ≡ accepted f → Sound (judge_content g) f × (lay_frame f ++ drop (size f) t ≡ t)
  placed_back n t f bytes e = let w = option_says (judge_content g) t f ((placed_plain n t f).0 e) in (w.0, w.1.again bytes)

  pub placed_within : (n : ℕ) (t : List ℕ) (f : Frame) → placed_option g n t ≡ accepted f → (4 ≤ size f) × (size f ≤ length t)
  placed_within n t f e = option_within (judge_content g) t f ((placed_plain n t f).0 e)

  pub all_frames : (s : List ℕ) → Bytes s → (fs : List Frame) → (all_options g s ≡ accepted fs) ↔ (All (Sound (judge_content g)) fs × (lay_all lay_frame fs ≡ s))
  unfolding all_options
  all_frames s b fs =
      all_exact (placed_option g (length s)) size lay_frame (Sound (judge_content g))
      (placed_lay (length s))
      (placed_back (length s))
      (λ f w. length_frame f)
      (λ f w. omega arith)
      s b fs

  frames_lay : (fs : List Frame) → All (Sound (judge_content g)) fs → all_options g (lay_all lay_frame fs) ≡ accepted fs
  unfolding all_options
  frames_lay fs w =
      all_laid_read (placed_option g _) size lay_frame (Sound (judge_content g)) (placed_lay _) (placed_back _)
      (λ f v. length_frame f)
      (λ f v. omega arith)
      fs w

  -- an option has four bytes or more
  pub few_options : (s : List ℕ) (fs : List Frame) → all_options g s ≡ accepted fs → 4 * length fs ≤ length s
  unfolding all_options
  few_options s fs e = all_count (placed_option g _) size 4 (omega arith) (placed_within _) s fs e

-- options whose content is judged alike are read alike
abbrev judging : (Kind → List ℕ → Verdict) → List ℕ → Answer (List Frame)
judging content s = all (λ t. further (length s - length t) (one_option content t)) size s

pub all_judged : (g : Settings) (content : Kind → List ℕ → Verdict) (s : List ℕ) → ((k : Kind) (body : List ℕ) → judge_content g k body ≡ content k body) → all_options g s ≡ judging content s
unfolding all_options placed_option
all_judged g content s same = λ i. judging (λ k body. same k body i) s

pub all_judged_alike : (g h : Settings) (s : List ℕ) → ((k : Kind) (body : List ℕ) → judge_content g k body ≡ judge_content h k body) → all_options g s ≡ all_options h s
unfolding all_options placed_option
all_judged_alike g h s same = all_judged g (judge_content h) s same

-- the bodies of bytes are bytes
bodies : (fs : List Frame) → Bytes (lay_all lay_frame fs) → All (λ f. Bytes f.body) fs
unfolding lay_all lay_frame be16
bodies [] b = tt
bodies (f ∷ fs) b =
    ((λ i. bytes_left (lay_frame f) (lay_all lay_frame fs) b (suc (suc (suc i)))), bodies fs (bytes_right (lay_frame f) (lay_all lay_frame fs) b))

abbrev pub Permitted : Settings → Frame → Type 0
Permitted g f = permitted g (kind_of f.type) f.body ≡ true

pub permit_passes : (g : Settings) (f : Frame) → (permit g f ≡ pass) ↔ Permitted g f
unfolding permit
permit_passes g f = refuse_pass _ _

pub permits_all : (g : Settings) (fs : List Frame) → (each_from size (permit g) 0 fs ≡ pass) ↔ All (Permitted g) fs
permits_all g fs = each_from_pass size (permit g) (Permitted g) (permit_passes g) 0 fs

-- the options read, in two steps
pub read_parts : (g : Settings) (s : List ℕ) (fs : List Frame) → (read_options g s ≡ accepted fs) ↔ ((all_options g s ≡ accepted fs) × All (Permitted g) fs)
unfolding read_options
read_parts g s fs = (
  (λ e.
      let (qs, all_read, e2) = bind_accepted _ _ _ e in
      let (may, same) = then_accepted _ _ _ e2 in
      subst (λ (l : List Frame). (all_options g s ≡ accepted l) × All (Permitted g) l) (accepted_inj qs fs same) (all_read, (permits_all g qs).0 may)),
  (λ h. bind_pass _ _ fs h.0 ∙ then_pass _ _ ((permits_all g fs).1 h.1)),
)

-- ---- all options, by their kinds' own fields

module _ (g : Settings) where
  -- lists of options that fit, and of frames that are sound and permitted, give each other back
  wired_all : (os : List Opt) → All (OptionFits g) os
      → All (Sound (judge_content g)) (map wire os) × All (Permitted g) (map wire os) × (lay_all lay_frame (map wire os) ≡ lay_options os) × (map fields (map wire os) ≡ os)
  unfolding lay_all
  wired_all [] h = (tt, tt, refl, refl)
  wired_all (o ∷ os) h =
      let w = wired g o h.0 in
      let (sound, may, lay, own) = wired_all os h.1 in
      ((w.sound, sound), (w.may, may), rw (w.layout, lay), rw (w.own, own))

  shown_all : (fs : List Frame) → All (λ f. Bytes f.body) fs → All (Sound (judge_content g)) fs → All (Permitted g) fs
      → All (OptionFits g) (map fields fs) × (map wire (map fields fs) ≡ fs)
  shown_all [] b w m = (tt, refl)
  shown_all (f ∷ fs) b w m =
      let (fits, back) = shown g f b.0 w.0 m.0 in
      let (all_fit, all_back) = shown_all fs b.1 w.1 m.1 in
      ((fits, all_fit), rw (back, all_back))

  -- what is laid out is read, as the frames of those options
  pub options_lay : (os : List Opt) → All (OptionFits g) os → read_options g (lay_options os) ≡ accepted (map wire os)
  options_lay os h =
      let (sound, may, lay, own) = wired_all os h in
      rw (← lay) ((read_parts g _ (map wire os)).1 (frames_lay g (map wire os) sound, may))

  -- what is read is laid out by its fields
  pub options_read : (s : List ℕ) → Bytes s → (fs : List Frame) → read_options g s ≡ accepted fs
      → All (OptionFits g) (map fields fs) × (lay_options (map fields fs) ≡ s) × (map wire (map fields fs) ≡ fs)
  options_read s b fs e =
      let (all_read, may) = (read_parts g s fs).0 e in
      let (sound, lay) = (all_frames g s b fs).0 all_read in
      let (fits, back) = shown_all fs (bodies fs (rw lay b)) sound may in
      let (_, _, same, _) = wired_all (map fields fs) fits in
      (fits, sym same ∙ ap (lay_all lay_frame) back ∙ lay, back)

  -- the fields of what was laid out are its own
  pub options_own : (os : List Opt) → All (OptionFits g) os → map fields (map wire os) ≡ os
  options_own os h = (wired_all os h).3

-- ---- looking up is counting

-- an option is read by what judges no more of what it holds, as lookup does, and so do settings that are no stricter
less_judged : (content less : Kind → List ℕ → Verdict) → ((k : Kind) (body : List ℕ) → content k body ≡ pass → less k body ≡ pass)
    → (s : List ℕ) (f : Frame) → one_option content s ≡ accepted f → one_option less s ≡ accepted f
unfolding one_option judge_kind
less_judged content less passes s f e =
    let (p, framed, e2) = bind_accepted _ _ _ e in
    let (judged, same) = then_accepted _ _ _ e2 in
    let (fits, holds) = then_accepted _ _ _ judged in
    bind_pass _ _ p framed ∙ then_pass _ _ (then_pass _ _ fits ∙ passes (kind_of p.type) p.body holds) ∙ same

pub no_stricter : (h g : Settings) → NoStricter h g → (s : List ℕ) (f : Frame) → read_option g s ≡ accepted f → read_option h s ≡ accepted f
unfolding judge_content
no_stricter h g less = less_judged (judge_content g) (judge_content h) passes
  where
    passes : (k : Kind) (body : List ℕ) → judge_content g k body ≡ pass → judge_content h k body ≡ pass
    passes configuration body e = e
    passes load_balancing body e = e
    passes (address family role) body e =
        (protocol_judged h.strict family role body).1 (λ on. (protocol_judged g.strict family role body).0 e (less on))
    passes unknown body e = e

-- 1,388 bytes hold no more options than there are slots
pub few_slots_used : (g : Settings) (s : List ℕ) (fs : List Frame) → all_options g s ≡ accepted fs → length s ≤ 1388 → length fs ≤ 347
few_slots_used g s fs e short = omega (arith, few_options g s fs e)

module _ (g : Settings) (s : List ℕ) (fs : List Frame) (e : all_options g s ≡ accepted fs) (short : length s ≤ 1388) (tab : List ℕ) (long : slots ≤ length tab) where
  abbrev T : List ℕ
  T = table_after tab (accepted fs)

  few : Few (accepted fs)
  few gs h = rw (← (accepted_inj fs gs h)) (few_slots_used g s fs e short)

  less : length fs ≤ 347
  less = few fs refl

  offset : (k : ℕ) → k < length fs → get_or T k 0 ≡ get_or (starts size 0 fs) k 0
  unfolding slots
  offset k h = slot tab long (accepted fs) few k (omega (arith, less)) ∙ offset_slot fs k h

  here : (k : ℕ) → k < length fs → look_up s T (length fs) k ≡ misfit (one_option unscanned (drop (get_or T k 0) s))
  unfolding look_up slots
  here k h =
      when_pass _ _ _ (lt-leb (length fs) k h) ∙ when_pass _ _ _ (lt-leb 347 k (omega (arith, less)))
      ∙ when_pass _ _ _ (lt-leb (length T) k (rw (after_long tab long (accepted fs) few) (omega (arith, less))))

  -- looking up any number in the table of these options gives what counting from the front gives
  pub looked_up : (k : ℕ) → look_up s T (length fs) k ≡ counted fs k
  unfolding look_up misfit all_options
  looked_up k = go (leb (length fs) k) refl
    where
      go : (t : Bool) → leb (length fs) k ≡ t → look_up s T (length fs) k ≡ counted fs k
      go true p = when_hit _ _ _ p ∙ sym (counted_past fs k (leb-true _ _ p))
      go false p =
          let h : k < length fs = leb-false _ _ p in
          let (f, c) = counted_in fs k h in
          let read : one_option unscanned (drop (get_or T k 0) s) ≡ accepted f =
          rw (offset k h) (less_judged (judge_content g) unscanned (λ k body e. refl) _ f ((placed_plain g _ _ f).0 (read_start (placed_option g _) size 4 (omega arith) (placed_within g _) s 0 fs k f e c))) in
          here k h ∙ rw (read, c)

  -- ---- the run cursor hands out the counted options of its run

  abbrev Hands : ℕ → ℕ → List Frame → Type 0
  Hands start left l = HandsOut (next_of_run s T (length fs)) along (record { next = start; left = left }) l

  -- with options left in the run, it answers as counting does
  in_run : (start count : ℕ) → next_of_run s T (length fs) (record { next = start; left = suc count }) ≡ counted fs start
  unfolding next_of_run
  in_run start count = when_pass _ _ _ (ne_eqb (suc count) 0 (λ z. omega arith)) ∙ looked_up start

  one_more : (start count : ℕ) (f : Frame) → counted fs start ≡ accepted f → Hands (start + 1) count (take count (drop (start + 1) fs))
      → Hands start (suc count) (take (suc count) (drop start fs))
  one_more start count f c later =
      let left : count ≡ suc count - 1 = omega arith in
      rw (counted_drop fs start f c) (gave (in_run start count ∙ c) (subst (λ (n : ℕ). Hands (start + 1) n (take count (drop (start + 1) fs))) left later))

  no_more : (start count : ℕ) → length fs ≤ start → Hands start (suc count) (take (suc count) (drop start fs))
  no_more start count h = rw (drop_of_length-le fs h) (ended (in_run start count ∙ counted_past fs start h))

  pub run_hands : (start count : ℕ) → Hands start count (take count (drop start fs))
  unfolding next_of_run
  run_hands start zero = ended (when_hit _ _ _ refl)
  run_hands start (suc count) = go (leb (length fs) start) refl (run_hands (start + 1) count)
    where
      go : (t : Bool) → leb (length fs) start ≡ t → Hands (start + 1) count (take count (drop (start + 1) fs)) → Hands start (suc count) (take (suc count) (drop start fs))
      go true p later = no_more start count (leb-true _ _ p)
      go false p later = let (f, c) = counted_in fs start (leb-false _ _ p) in one_more start count f c later
