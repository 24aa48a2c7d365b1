-- Where a refusal of the options stands: in a string, in one option, among all; and that no other refusal tells a place. Assumes nothing.
use mathlib.Core.Path.{◌≡◌, refl, sym, ap, ◌∙◌, subst}
use mathlib.Core.Bool.{Bool, true, false, not}
use mathlib.Core.Logic.{◌≢◌, ◌⊎◌, inl, inr, ⊎_elim}
use mathlib.Core.List.{List, [], ◌∷◌, ◌++◌, append_assoc, map}
use Prim.Native.Nat.{ℕ, suc, ◌+◌, ◌-◌, ◌≤◌, ◌<◌}
use native.Mathlib.Omega.{arith}
use lib.ListN.{length, take, drop, get_or, length-drop, take-append-drop}
use lib.Seq.{take-add, drop-drop, length-take-le, get_or-append-add}
use lib.Dec.{eqb}
use borrow.Author.Tests.{le-ltb, eqb-true, eqb-false}
use Rattle.numbers.specs.Refusals.{Refusal, refusal, ◌at_byte◌, untold, told, moved_place, moved, unknown_option}
use Rattle.numbers.specs.Answers.{accepted, refused, ◌>>=◌, ◌>>◌, refuse◌when◌else◌, further, All}
use Rattle.numbers.specs.Rules.{Rules, accept, ◌if◌else◌, part◌else◌, Refuses}
use Rattle.numbers.specs.Bytes.{Bytes, be16, at16}
use Rattle.numbers.proofs.AnswerLaws.{moved_there, when_hit, when_pass, not_refused, bind_refused, then_refused, further_refused, bind_stopped, all_map}
use Rattle.numbers.proofs.ByteLaws.{bytes_left, bytes_right, bytes_take}
use Rattle.sd_format.specs.Settings.{Settings}
use Rattle.sd_format.specs.Sequences.{all, total, Stops, this_part, later_part, FirstRefused}
use Rattle.sd_format.specs.Options.{Family, Role, First, Opt, configuring, balancing, addressed, unrecognised, has}
use Rattle.sd_format.specs.Strings.{key_of}
use Rattle.sd_format.specs.Kinds.{Row, kind_of, judge_content}
use Rattle.sd_format.specs.Frames.{Frame, size, read_option, placed_option, permitted, permit, all_options, read_options, read_index}
use Rattle.sd_format.specs.Fields.{first, fields, fields_of}
use Rattle.sd_format.specs.Entries.{sixteen, placed_entry}
use Rattle.sd_format.specs.Layout.{GoodItem, lay_items, lay_all, lay_first, lay_type, lay_length as kind_length, address_length, lay_option, lay_options, wire, Unknown, OptionFits}
use Rattle.sd_format.specs.Payload.{options_part, read_payload, read_message}
use Rattle.sd_format.specs.Rules.{key_rules, item_rules, StringRefused, unterminated, trailing, this_item, later_item, OtherLength, WrongProtocol, Scanned, placed_rules, size_rules, header_rules}
use Rattle.sd_format.specs.Demand3.{undecided}
use Rattle.sd_format.specs.Faults as faults
use Rattle.sd_format.specs.Faults.{StringFault, StringStopped, OneRefused, by_length, by_zero, by_string, by_protocol, Stopped, NotPermitted, PlaceIsThePlace}
use Rattle.sd_format.proofs.SequenceLaws.{stopped_at, all_refuses, each_refused, lay_append, lay_length}
use Rattle.sd_format.proofs.StringLaws.{item_passes}
use Rattle.sd_format.proofs.StringRules.{item_follows, string_refused}
use Rattle.sd_format.proofs.FrameLaws.{lay_frame, length_frame, Sound}
use Rattle.sd_format.proofs.FieldLaws.{widths, lengths}
use Rattle.sd_format.proofs.OptionLaws.{all_frames, placed_lay, placed_back, Permitted, permit_passes, read_parts, options_lay, options_read}
use Rattle.sd_format.proofs.CallLaws.{index_reads}
use Rattle.sd_format.proofs.RuleLaws.{fixed_address, read_option_follows, permit_follows, stops_at, entries_stop, placed_follows, sizes_follow, header_follows}
use Rattle.sd_format.proofs.BitLaws.{has_num, first_back}
use Rattle.sd_format.proofs.KindLaws.{row_unknown}

-- ---- in a string

-- every refusal of the item at `p` tells that place
abbrev Tells : ℕ → Refusal → Type 0
Tells p r = r.place ≡ told p

key_tells : (p : ℕ) (key : List ℕ) (r : Refusal) → Refuses (key_rules p key) r → Tells p r
key_tells p key r w =
    ⊎_elim (λ empty. subst (Tells p) empty.1 refl)
    (λ some. ⊎_elim (λ bad. subst (Tells p) bad.says refl)
    (λ good. ⊎_elim (λ blank. subst (Tells p) blank.1 refl) (λ none. absurd none.1) good.1)
    some.1) w

item_tells : (p n : ℕ) (rest : List ℕ) (r : Refusal) → Refuses (item_rules p n rest) r → Tells p r
item_tells p n rest r w = ⊎_elim (λ long. subst (Tells p) long.1 refl) (λ fits. key_tells p (key_of (take n rest)) r fits.1) w

fault_tells : (p : ℕ) (l : List ℕ) (r : Refusal) → StringFault p l r → Tells p r
fault_tells p _ _ faults.unterminated = refl
fault_tells p _ _ (faults.trailing b rest) = refl
fault_tells p _ _ (faults.item n rest r some w) = item_tells p n rest r w

-- from the bytes `l` on, which stand at `at`: the items in front are good, and behind them stands the fault
abbrev From : ℕ → List ℕ → Refusal → Type 0
From at l r = (before : List (List ℕ)) × (p : ℕ) × All GoodItem before × (lay_items before ≡ take p l ++ (0 ∷ [])) × (p ≤ length l) × StringFault (at + p) (drop p l) r

here : (at : ℕ) (l : List ℕ) (r : Refusal) → StringFault at l r → From at l r
unfolding lay_items
here at l r f = let none : at ≡ at + 0 = omega arith in ([], 0, tt, refl, omega arith, subst (λ (p : ℕ). StringFault p l r) none f)

behind_item : (at n : ℕ) (rest : List ℕ) (r : Refusal) → n ≤ length rest → GoodItem (take n rest) → From (at + 1 + n) (drop n rest) r → From at (n ∷ rest) r
unfolding lay_items
behind_item at n rest r fits good (before, p, all-good, laid, within, fault) =
    let left : p ≤ length rest - n = rw length-drop at within in
    let far : at + 1 + n + p ≡ at + suc (n + p) = omega arith in (
      take n rest ∷ before,
      suc (n + p),
      (good, all-good),
      rw (length-take-le n rest fits, laid, take-add n p rest) (ap (λ (l : List ℕ). n ∷ l) (sym (append_assoc (take n rest) (take p (drop n rest)) (0 ∷ [])))),
      omega arith,
      subst (λ (q : ℕ). StringFault q (drop (n + p) rest) r) far (rw (← (drop-drop p n rest)) fault),
    )

behind_terminator : (at : ℕ) (rest : List ℕ) → rest ≢ [] → From at (0 ∷ rest) (refusal 9 (3 ∷ at ∷ []) at_byte at)
behind_terminator at [] some = absurd (some refl)
behind_terminator at (b ∷ rest) some = here at _ _ (faults.trailing b rest)

stopped_from : {at : ℕ} {l : List ℕ} {r : Refusal} → StringRefused at l r → From at l r
stopped_from (unterminated {at}) = here at [] _ faults.unterminated
stopped_from (trailing {at} {rest} some) = behind_terminator at rest some
stopped_from (this_item {at} {n} {rest} {r} some w) = here at (n ∷ rest) r (faults.item n rest r some w)
stopped_from (later_item {at} {n} {rest} {r} some w later) =
    let (fits, good) = (item_passes at n rest).0 ((item_follows at n rest).accepts.1 w).1 in
    behind_item at n rest r fits good (stopped_from later)

string_stopped : (s : List ℕ) (r : Refusal) → StringRefused 0 s r → StringStopped s r
string_stopped s r e =
    let (before, p, good, laid, within, fault) = stopped_from e in
    let none : 0 + p ≡ p = omega arith in
    let there : StringFault p (drop p s) r = subst (λ (q : ℕ). StringFault q (drop p s) r) none fault in
    record { before = before; place = p; good = good; laid = laid; within = within; fault = there; told_there = fault_tells p (drop p s) r there }

-- ---- in one option

-- where no length but its kind's is left, an option with an address has that
own_length : {type : ℕ} (had : ℕ) (family : Family) (role : Role) → type ≡ lay_type family role → ((q : Refusal) → ¬ OtherLength type had q) → had ≡ kind_length family
own_length {type} had family role t own = go (eqb had (kind_length family)) refl
  where
    go : (b : Bool) → eqb had (kind_length family) ≡ b → had ≡ kind_length family
    go true e = eqb-true _ _ e
    go false e = absurd (own _ (record { needed = kind_length family; fixed = rw t (fixed_address family role); other = eqb-false _ _ e; says = refl }))

module _ (g : Settings) (s : List ℕ) where
  abbrev One : Refusal → Type 0
  One r = (p : ℕ) × OneRefused g s r p × (r.place ≡ told p) × (p ≤ length s)

  -- at its first byte
  first_byte : (q r : Refusal) → OneRefused g s q 0 → q.place ≡ told 0 → q ≡ r → One r
  first_byte q r which there same = subst One same (0, which, there, omega arith)

  module _ (r : Refusal) (long : length s < 3 → ⊥) (some : at16 s 0 ≡ 0 → ⊥) (whole : length s < 3 + at16 s 0 → ⊥) where
    in_string : (get_or s 2 0 ≡ 0x01) × Scanned (drop 1 (take (at16 s 0) (drop 3 s))) r → One r
    in_string (type, scans) =
        let (q, stops, there) = scans in
        let w = string_stopped _ q stops in
        let body : length (take (at16 s 0) (drop 3 s)) ≡ at16 s 0 = length-take-le (at16 s 0) (drop 3 s) (rw length-drop (omega arith)) in
        let low : w.place ≤ at16 s 0 - 1 = rw (length-drop, body) at w.within in
        subst One there (4 + w.place, by_string q type w, ap (moved_place 4) w.told_there, omega arith)

    -- its length is its kind's, and with it the protocol is one of its bytes
    at_protocol : ((q : Refusal) → ¬ OtherLength (get_or s 2 0) (at16 s 0) q) → WrongProtocol g s r → One r
    at_protocol own w =
        let byte : ℕ = 5 + address_length w.family in
        let low : byte ≤ length s = omega (arith, widths w.family, lengths w.family, own_length (at16 s 0) w.family w.role w.type own) in
        subst One w.says (byte, by_protocol w.family w.role byte w.strict w.type refl w.misfit, refl, low)

  one_refused : (r : Refusal) → read_option g s ≡ refused r → One r
  one_refused r e =
      ⊎_elim (λ short. first_byte _ r (by_length _ _ _) refl short.1)
      (λ (long, w1). ⊎_elim (λ zero_length. first_byte _ r by_zero refl zero_length.1)
      (λ (some, w2). ⊎_elim (λ cut. first_byte _ r (by_length _ _ _) refl cut.1)
      (λ (whole, w3). ⊎_elim (λ other. first_byte _ r (by_length _ _ _) refl other.says)
      (λ (own, w4). ⊎_elim (⊎_elim (in_string r long some whole) (at_protocol r long some whole own)) (λ none. absurd none.1) w4) w3) w2) w1)
      (((read_option_follows g s).refuses r).0 e)

  -- it tells a place, which lies in the bytes or at their end
  pub option_told : (r : Refusal) → read_option g s ≡ refused r → (p : ℕ) × (r.place ≡ told p) × (p ≤ length s)
  option_told r e = let (p, which, there, low) = one_refused r e in (p, there, low)

  -- what is said of one is at its place
  one_there : (r : Refusal) (p : ℕ) → OneRefused g s r p → r.place ≡ told p
  one_there _ _ (by_length needed had source) = refl
  one_there _ _ by_zero = refl
  one_there _ _ (by_string r type w) = ap (moved_place 4) w.told_there
  one_there _ _ (by_protocol family role byte on type is misfit) = refl

-- ---- among all

-- sound options that are laid out, by their fields
front_fits : (g : Settings) (t : List ℕ) → Bytes t → (fs : List Frame) → All (Sound (judge_content g)) fs × (lay_all lay_frame fs ≡ t)
    → All (OptionFits (undecided g)) (map fields fs) × (lay_options (map fields fs) ≡ t)
front_fits g t b fs w =
    let (fits, laid, back) = options_read (undecided g) t b fs (index_reads g t ∙ (all_frames g t b fs).1 w) in
    (fits, laid)

stopped : (g : Settings) (s : List ℕ) → Bytes s → (r : Refusal) → all_options g s ≡ refused r → Stopped g s r
unfolding placed_option
stopped g s b r e =
    let (fs, start, laid, more, stop) =
    stopped_at (placed_option g (length s)) size lay_frame (Sound (judge_content g)) (placed_lay g _) (placed_back g _) (λ f w. length_frame f) (λ f w. omega arith) b ((stops_at g s r).0 e) in
    let (alone, reads, same) = further_refused _ _ r stop in
    let (p, which, there, low) = one_refused g _ alone reads in
    let (fits, lays) = front_fits g (take start s) (bytes_take s start b) fs laid in
    let far : length s - length (drop start s) ≡ start = rw length-drop (omega arith) in
    record {
      before = map fields fs;
      start = start;
      alone = alone;
      place = p;
      fit = fits;
      laid = lays;
      more = more;
      reads = reads;
      which = which;
      within = subst (λ (n : ℕ). p ≤ n) (length-drop start s) low;
      there = sym same ∙ ap (λ (n : ℕ). moved n alone) far ∙ moved_there alone start p there;
    }

stopped_back : (g : Settings) (s : List ℕ) → Bytes s → (r : Refusal) → Stopped g s r → all_options g s ≡ refused r
unfolding all_options placed_option further
stopped_back g s b r w =
    let t : List ℕ = take w.start s in
    let front : all_options g t ≡ accepted (map wire w.before) = sym (index_reads g t) ∙ ap (read_options (undecided g)) (sym w.laid) ∙ options_lay (undecided g) w.before w.fit in
    let (sound, laid) = (all_frames g t (bytes_take s w.start b) (map wire w.before)).0 front in
    let far : length s - length (drop w.start s) ≡ w.start = rw length-drop (omega (arith, w.more)) in
    let stop : placed_option g (length s) (drop w.start s) ≡ refused r =
    ap (further (length s - length (drop w.start s))) w.reads
    ∙ ap (λ (n : ℕ). refused (moved n w.alone)) far
    ∙ ap refused (moved_there w.alone w.start w.place (one_there g _ _ _ w.which) ∙ sym w.there) in
    ap (all (placed_option g (length s)) size) (sym (ap (λ (l : List ℕ). l ++ drop w.start s) laid ∙ take-append-drop w.start s))
    ∙ all_refuses (placed_option g (length s)) size lay_frame (Sound (judge_content g)) (placed_lay g _) (placed_back g _) (λ f v. length_frame f) (λ f v. omega arith)
    (map wire w.before) (drop w.start s) r sound (rw length-drop (omega (arith, w.more))) stop

-- ---- an option that may not stand

unknown_fields : (f : Frame) → Unknown f.type → fields f ≡ unrecognised f.type (first f.body) (drop 1 f.body)
unfolding fields fields_of
unknown_fields f u = ap (λ (q : Row). fields_of q.kind f.type f.body) (row_unknown f.type u)

all_split : {A : Type 0} (P : A → Type 0) (xs ys : List A) → All P (xs ++ ys) → All P xs × All P ys
all_split P [] ys h = (tt, h)
all_split P (x ∷ xs) ys h = let w = all_split P xs ys h.1 in ((h.0, w.0), w.1)

all_join : {A : Type 0} (P : A → Type 0) (xs ys : List A) → All P xs → All P ys → All P (xs ++ ys)
all_join P [] ys h k = k
all_join P (x ∷ xs) ys h k = (h.0, all_join P xs ys h.1 k)

map_join : {A B : Type 0} (f : A → B) (xs ys : List A) → map f (xs ++ ys) ≡ map f xs ++ map f ys
map_join f [] ys = refl
map_join f (x ∷ xs) ys = ap (λ (l : List _). f x ∷ l) (map_join f xs ys)

fourth : (type : ℕ) (b : First) (rest l : List ℕ) → get_or (lay_option (unrecognised type b rest) ++ l) 3 0 ≡ lay_first b
unfolding lay_option be16
fourth type b rest l = refl

module _ (g : Settings) where
  not_permitted : (s : List ℕ) → Bytes s → (fs : List Frame) → all_options g s ≡ accepted fs → (r : Refusal) → FirstRefused size (permit g) 0 fs r → NotPermitted g s r
  unfolding lay_all
  not_permitted s b fs read r w =
      let f : Frame = w.one in
      let ((strange, bare, off), ten) = ⊎_elim (λ h. h) (λ none. absurd none.1) (((permit_follows g f).refuses w.alone).0 w.refused_there) in
      let (sound, laid) = (all_frames g s b fs).0 read in
      let (sound-front, Sound-back) = all_split (Sound (judge_content g)) w.before (f ∷ w.behind) (subst (All (Sound (judge_content g))) w.among sound) in
      let F : List ℕ = lay_all lay_frame w.before in
      let B : List ℕ = lay_all lay_frame (f ∷ w.behind) in
      let cut : F ++ B ≡ s = sym (lay_append lay_frame w.before (f ∷ w.behind)) ∙ ap (lay_all lay_frame) (sym w.among) ∙ laid in
      let bytes_f : Bytes F = bytes_left F B (rw cut b) in
      let bytes_b : Bytes B = bytes_right F B (rw cut b) in
      let may : All (Permitted g) w.before = all_map _ _ (λ x. (permit_passes g x).0) w.before w.passed in
      let (fit, lay-front, _) = options_read g F bytes_f w.before ((read_parts g F w.before).1 ((all_frames g F bytes_f w.before).1 (sound-front, refl), may)) in
      let o : fields f ≡ unrecognised f.type (first f.body) (drop 1 f.body) = unknown_fields f strange in
      let (decode, lay-back) = rw o at (front_fits g B bytes_b (f ∷ w.behind) (Sound-back, refl)) in
      let far : 0 + total size w.before + 3 ≡ length (lay_options (map fields w.before)) + 3 =
      omega (arith, lay_length lay_frame size length_frame w.before, ap length lay-front) in
      let whole : lay_options (map fields w.before) ++ lay_options (unrecognised f.type (first f.body) (drop 1 f.body) ∷ map fields w.behind) ≡ s = rw (lay-front, lay-back) cut in
      record {
        before = map fields w.before;
        type = f.type;
        first = first f.body;
        rest = drop 1 f.body;
        behind = map fields w.behind;
        fit = fit;
        decode = decode;
        laid = lay_append lay_option (map fields w.before) _ ∙ whole;
        bit_clear = has_num (get_or f.body 0 0) 0x80 false bare;
        setting_off = off;
        byte_there = rw (← whole) (get_or-append-add (lay_options (map fields w.before)) _ 3 0 ∙ fourth f.type (first f.body) (drop 1 f.body) _);
        there = sym w.place ∙ ap (moved (0 + total size w.before)) (sym ten) ∙ ap (λ (p : ℕ). refusal 10 (f.type ∷ []) at_byte p) far;
      }

  -- and back
  undecided_too : (os : List Opt) → All (OptionFits g) os → All (OptionFits (undecided g)) os
  undecided_too [] h = tt
  undecided_too (configuring b items ∷ os) h = (h.0, undecided_too os h.1)
  undecided_too (balancing b priority weight ∷ os) h = (h.0, undecided_too os h.1)
  undecided_too (addressed family role b a reserved protocol port ∷ os) h = (h.0, undecided_too os h.1)
  undecided_too (unrecognised type b rest ∷ os) h = ((h.0.0, h.0.1, inr refl), undecided_too os h.1)

  barred : (type : ℕ) (b : First) (rest : List ℕ) → OptionFits (undecided g) (unrecognised type b rest) → b.discardable ≡ false → g.discard ≡ false
      → permit g (wire (unrecognised type b rest)) ≡ refused (unknown_option type)
  unfolding permit permitted lay_option be16
  barred type b rest h bare off =
      let clear : has (lay_first b) 0x80 ≡ false = ap (λ (c : First). c.discardable) (first_back b h.0) ∙ bare in
      let judged : permitted g (kind_of type) (lay_first b ∷ rest) ≡ false =
      ap (λ (q : Row). permitted g q.kind (lay_first b ∷ rest)) (row_unknown type h.1) ∙ rw (off, clear) in
      when_hit _ _ _ (ap not judged)

  not_permitted_back : (s : List ℕ) → Bytes s → (r : Refusal) → NotPermitted g s r → read_options g s ≡ refused r
  unfolding read_options ◌>>=◌ ◌>>◌
  not_permitted_back s b r w =
      let u : Opt = unrecognised w.type w.first w.rest in
      let F : List ℕ = lay_options w.before in
      let cut : F ++ lay_options (u ∷ w.behind) ≡ s = sym (lay_append lay_option w.before (u ∷ w.behind)) ∙ w.laid in
      let fit : All (OptionFits (undecided g)) (w.before ++ (u ∷ w.behind)) = all_join _ w.before _ (undecided_too w.before w.fit) w.decode in
      let read : all_options g s ≡ accepted (map wire w.before ++ (wire u ∷ map wire w.behind)) =
      sym (index_reads g s) ∙ ap (read_options (undecided g)) (sym w.laid) ∙ options_lay (undecided g) _ fit ∙ ap accepted (map_join wire w.before (u ∷ w.behind)) in
      let (front, may) = (read_parts g F (map wire w.before)).0 (options_lay g w.before w.fit) in
      let same = ((all_frames g F (bytes_left F (lay_options (u ∷ w.behind)) (rw cut b)) (map wire w.before)).0 front).1 in
      let far : 0 + total size (map wire w.before) + 3 ≡ length F + 3 =
      omega (arith, lay_length lay_frame size length_frame (map wire w.before), ap length same) in
      let first_one : FirstRefused size (permit g) 0 (map wire w.before ++ (wire u ∷ map wire w.behind)) r =
      record {
        before = map wire w.before;
        one = wire u;
        behind = map wire w.behind;
        alone = unknown_option w.type;
        among = refl;
        passed = all_map _ _ (λ x. (permit_passes g x).1) (map wire w.before) may;
        refused_there = barred w.type w.first w.rest w.decode.0 w.bit_clear w.setting_off;
        place = ap (λ (p : ℕ). refusal 10 (w.type ∷ []) at_byte p) far ∙ sym w.there;
      } in
      rw (read, (each_refused size (permit g) 0 _ r).1 first_one) refl

-- ---- and no other refusal tells a place

-- rules none of whose refusals does
abbrev Untold : Rules → Type 0
Untold accept = Unit {0}
Untold (q if P else later) = (q.place ≡ untold) × Untold later
Untold (part P else later) = ((q : Refusal) → P q → q.place ≡ untold) × Untold later

untold_refuses : (rules : Rules) → Untold rules → (r : Refusal) → Refuses rules r → r.place ≡ untold
untold_refuses accept u r w = absurd w
untold_refuses (q if P else later) u r w =
    ⊎_elim (λ here. subst (λ (x : Refusal). x.place ≡ untold) here.1 u.0) (λ h. untold_refuses later u.1 r h.1) w
untold_refuses (part P else later) u r w = ⊎_elim (u.0 r) (λ h. untold_refuses later u.1 r h.1) w

untold_entry : (n : ℕ) {s : List ℕ} {r : Refusal} → Stops (placed_entry n) sixteen s r → r.place ≡ untold
untold_entry n (this_part {s} {r} some e) =
    untold_refuses (placed_rules n s) (refl, (refl, (refl, (refl, tt)))) r (((placed_follows n s).refuses r).0 e)
untold_entry n (later_part some e later) = untold_entry n later

payload_tells : (g : Settings) (s : List ℕ) (r : Refusal) → read_payload g s ≡ refused r → (r.place ≡ untold) ⊎ (read_options g (options_part s) ≡ refused r)
unfolding read_payload
payload_tells g s r e =
    ⊎_elim
    (λ sizes. inl (untold_refuses (size_rules _ _ _) (refl, (refl, (refl, (refl, (refl, (refl, (refl, (refl, tt)))))))) r (((sizes_follow _ _ _).refuses r).0 sizes)))
    (λ (_, e1). ⊎_elim inr (λ (fs, _, e2). inl (untold_entry (length fs) ((entries_stop (length fs) _ r).0 (bind_refused _ _ r e2)))) (bind_stopped _ _ r e1))
    (then_refused _ _ r e)

message_tells : (g : Settings) (s : List ℕ) (r : Refusal) → read_message g s ≡ refused r
    → (r.place ≡ untold) ⊎ (read_options g (options_part (drop 16 s)) ≡ refused r)
unfolding read_message
message_tells g s r e =
    ⊎_elim
    (λ header. inl (untold_refuses (header_rules s) (refl, (refl, (refl, (refl, (refl, (refl, (refl, tt))))))) r (((header_follows s).refuses r).0 header)))
    (λ (_, e1). payload_tells g (drop 16 s) r e1)
    (then_refused _ _ r e)

-- ---- the place is the place

pub place_is_the_place : (g : Settings) (s : List ℕ) → Bytes s → PlaceIsThePlace g s
unfolding read_options read_index ◌>>=◌
place_is_the_place g s b =
    record {
      string = λ r e. string_stopped s r ((string_refused s r).0 e);
      option = one_refused g s;
      options = λ r. (
        (λ e.
            ⊎_elim
            (λ stop. inl (stopped g s b r stop))
            (λ (fs, read, e1).
            let first_one = ⊎_elim (λ q. q) (λ (_, e2). not_refused r fs (sym e2)) (then_refused _ _ r e1) in
            inr (not_permitted g s b fs read r ((each_refused size (permit g) 0 fs r).0 first_one)))
            (bind_stopped _ _ r e)),
        ⊎_elim (λ w. rw (stopped_back g s b r w)) (not_permitted_back g s b r),
      );
      index = λ r short. (
        (λ e. stopped g s b r (sym (when_pass _ _ _ (le-ltb 1388 (length s) short)) ∙ e)),
        (λ w. when_pass _ _ _ (le-ltb 1388 (length s) short) ∙ stopped_back g s b r w),
      );
      payload = payload_tells g s;
      message = message_tells g s;
    }
