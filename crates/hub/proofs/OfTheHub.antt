-- Demand 3 of what C calls, from the promises of the exported functions and from demand 3 of the definitions. Assumes nothing.
use Prim.Native.Nat.{ℕ, zero, suc, ◌+◌, ◌*◌, ◌-◌, ◌/◌, ◌%◌, ◌≤◌, ◌<◌}
use mathlib.Core.Path.{◌≡◌, refl, sym, ap, ◌∙◌, subst}
use mathlib.Core.Logic.{◌⊎◌, inl, inr}
use mathlib.Core.Bool.{Bool, true, false, cond}
use mathlib.Core.List.{List, [], ◌∷◌, ◌++◌, map}
use native.Mathlib.Nat.{mul-suc, add-zero, zero-add, add_assoc, min-le_left}
use native.Mathlib.Omega.{arith}
use lib.ListN.{length, take, drop, get_or, length-append, length-drop, length-take, length-map}
use lib.Seq.{length-take-le, take_all}
use borrow.Author.Tests.{eqb-true, eq-eqb, ne_eqb}
use lib.Dec.{eqb}
use Rattle.numbers.specs.Refusals.{nothing_there}
use Rattle.numbers.specs.Answers.{Answer, accepted, refused, refuse◌when◌else◌, given, All}
use Rattle.sd_format.specs.Settings.{Settings}
use Rattle.numbers.specs.Answers as paper
use Rattle.numbers.specs.Bytes.{Bytes}
use Rattle.numbers.proofs.AnswerLaws.{given_accepted, then_accepted, then_pass}
use Rattle.numbers.proofs.ByteLaws.{bytes_drop}
use Rattle.sd_format.specs.Sequences.{counted, starts}
use Rattle.sd_format.specs.Options.{Opt}
use Rattle.sd_format.specs.Kinds.{judge_content}
use Rattle.sd_format.specs.Frames.{Frame, size, slots, read_option, lent, read_index, look_up, next_of_run}
use Rattle.sd_format.specs.Entries.{Entry, read_entry, next_entry}
use Rattle.sd_format.specs.Fields.{fields}
use Rattle.sd_format.specs.Layout.{lay_all, lay_entry, lay_option, lay_entries, lay_options, EntryFits, OptionFits, wire, Payload, lay_opening, lay_parts}
use Rattle.sd_format.specs.Payload.{entries_length, entries_part, options_part, Reading, flags, read_payload, shown, handed_out, read_message}
use Rattle.sd_format.specs.Demand3.{LaidOut, table_left, NoStricter, undecided, IndexLaidOut}
use Rattle.sd_format.proofs.FrameLaws.{length_frame, option_lay}
use Rattle.sd_format.proofs.FieldLaws.{wired}
use Rattle.sd_format.proofs.OptionLaws.{no_stricter}
use Rattle.sd_format.proofs.EntryLaws.{length_entry, entry_lay, entry_plain}
use Rattle.sd_format.proofs.PayloadLaws.{length_opening, part_entries, part_options, lay_read, ReadSays, read_says}
use Rattle.sd_format.proofs.CallLaws.{lent_exactly, tables_left, index_laid, index_exact, message_exact}
use Rattle.sd_format.proofs.Demand3.{demand3}
use Rattle.sd_field.specs.Said.{decoded}
use Rattle.sd_payload.specs.Sized.{sized}
use Rattle.sd_payload.specs.Reads.{flags_laid, summed}
use Rattle.sd_payload.proofs.FlagsByName.{flags_by_name_laid}
use Rattle.hub.specs.declared.answers.Answer as hub
use Rattle.hub.specs.declared.payload.Places.{Places}
use Rattle.hub.specs.Answers.{row, told, one_value, option_values}
use Rattle.hub.specs.Settings.{settings_of, ByBits}
use Rattle.hub.specs.Payload.{flag_bits, summary_values, Reads, nowhere, places_of, placed, places_told}
use Rattle.hub.specs.Entries.{entry_told}
use Rattle.hub.specs.Options.{Indexes, option_told, read_option_told, option_fields}
use Rattle.hub.specs.OfTheHub.{start, laid_values, told_of, HandedToC, PartsOf, ToldToC, OfTheHub, OfTheIndex, OfTheMessage}
use Rattle.hub.proofs.HandedLaws.{stands_there, there_or_not, past_end, next_laid}

-- ---- an entry and an option in front of other bytes

entry_read : (n : ℕ) (e : Entry) (rest : List ℕ) → EntryFits n e → read_entry (lay_entry e ++ rest) ≡ accepted e
entry_read n e rest w = entry_plain n (lay_entry e ++ rest) e (entry_lay n e rest w)

-- under settings that ask no more than those under which it fits
option_read : (h g : Settings) → NoStricter h g → (o : Opt) (rest : List ℕ) → OptionFits g o → read_option h (lay_option o ++ rest) ≡ accepted (wire o)
option_read h g less o rest w =
    let v = wired g o w in
    no_stricter h g less _ _ (ap (λ (l : List ℕ). read_option g (l ++ rest)) (sym v.layout) ∙ option_lay (judge_content g) (wire o) rest v.sound)

size_laid : (g : Settings) (o : Opt) → OptionFits g o → size (wire o) ≡ length (lay_option o)
size_laid g o w = sym (length_frame (wire o)) ∙ ap length (wired g o w).layout

same_answer : {A : Type 0} (a : Answer A) → given (λ x. x) a ≡ a
unfolding given
same_answer (accepted x) = refl
same_answer (refused r) = refl

-- ---- the entries

module _ (n : ℕ) where
  sixteen_each : (es : List Entry) → length (lay_entries es) ≡ 16 * length es
  unfolding lay_all
  sixteen_each [] = refl
  sixteen_each (e ∷ es) = length-append (lay_entry e) (lay_entries es) ∙ rw mul-suc (omega (arith, length_entry e, sixteen_each es))

  next_entry_laid : (es : List Entry) → All (EntryFits n) es → (k : ℕ) → next_entry (lay_entries es) (16 * k) ≡ counted es k
  next_entry_laid es w k = go (there_or_not read_entry lay_entry (λ e. e) (EntryFits n) (entry_read n) long es w k)
    where
      long : (e : Entry) → EntryFits n e → 1 ≤ length (lay_entry e)
      long e f = omega (arith, length_entry e)

      go : ((x : Entry) × (counted es k ≡ accepted x) × EntryFits n x × (k < length es)) ⊎ ((counted es k ≡ refused nothing_there) × (length es ≤ k))
          → next_entry (lay_entries es) (16 * k) ≡ counted es k
      go (inl (x, e, f, h)) =
          let front : length (take k es) ≡ k = length-take-le k es (omega arith) in
          let at : 16 * k ≡ length (lay_entries (take k es)) = ap (λ (m : ℕ). 16 * m) (sym front) ∙ sym (sixteen_each (take k es)) in
          ap (next_entry (lay_entries es)) at ∙ next_laid read_entry lay_entry (λ e. e) (EntryFits n) (entry_read n) long es w k ∙ same_answer (counted es k)
      go (inr (e, h)) =
          past_end read_entry lay_entry (λ e. e) (EntryFits n) (entry_read n) long (lay_entries es) (16 * k) (rw sixteen_each (omega arith)) ∙ sym e

-- ---- the options

-- where option k starts: behind the layouts of those before it
start_from : (g : Settings) (os : List Opt) → All (OptionFits g) os → (at k : ℕ) → k < length os → get_or (starts size at (map wire os)) k 0 ≡ at + start os k
unfolding starts lay_all
start_from g [] w at k h = absurd (omega arith)
start_from g (o ∷ os) w at zero h = sym (add-zero at)
start_from g (o ∷ os) w at (suc k) h =
    start_from g os w.1 (at + size (wire o)) k (omega arith)
    ∙ ap (λ (n : ℕ). at + n + start os k) (size_laid g o w.0)
    ∙ add_assoc at (length (lay_option o)) (start os k)
    ∙ ap (λ (n : ℕ). at + n) (sym (length-append (lay_option o) (lay_options (take k os))))

module _ (g : Settings) (os : List Opt) (w : All (OptionFits g) os) where
  some_bytes : (o : Opt) → OptionFits g o → 1 ≤ length (lay_option o)
  some_bytes o f = omega (arith, size_laid g o f)

  abbrev OneOrNone : ℕ → Type 0
  OneOrNone k = ((o : Opt) × (counted os k ≡ accepted o) × OptionFits g o × (k < length os)) ⊎ ((counted os k ≡ refused nothing_there) × (length os ≤ k))

  one_or_none : (k : ℕ) → OneOrNone k
  one_or_none k = there_or_not (read_option g) lay_option wire (OptionFits g) (option_read g g (λ on. on)) some_bytes os w k

  -- what is told of option k, at the place where it starts
  told_wired : (k at : ℕ) → (k < length os → at ≡ start os k) → told (option_values at) (given wire (counted os k)) ≡ told_of os k
  unfolding given
  told_wired k at place = go (one_or_none k)
    where
      go : OneOrNone k → told (option_values at) (given wire (counted os k)) ≡ told_of os k
      go (inl (o, e, f, h)) =
          ap (λ (a : Answer Opt). told (option_values at) (given wire a)) e
          ∙ (λ i. row 0 (get_or (lay_option o) 2 0 ∷ place h i ∷ size_laid g o f i ∷ []))
          ∙ sym (ap (told (laid_values (start os k))) e)
      go (inr (e, h)) = ap (λ (a : Answer Opt). told (option_values at) (given wire a)) e ∙ sym (ap (told (laid_values (start os k))) e)

  fields_told : (h : Settings) → NoStricter h g → (k : ℕ) (o : Opt) → counted os k ≡ accepted o
      → read_option_told h (drop (start os k) (lay_options os)) ≡ option_fields (length (lay_option o)) o
  unfolding read_option_told given
  fields_told n less k o e = go (one_or_none k)
    where
      go : OneOrNone k → option_told (given decoded (read_option n (drop (start os k) (lay_options os)))) ≡ option_fields (length (lay_option o)) o
      go (inl (x, e', f, h)) =
          let same : x ≡ o = cc in
          let fits : OptionFits g o = subst (OptionFits g) same f in
          let (rest, there) = stands_there (read_option n) lay_option wire (OptionFits g) (option_read n g less) some_bytes os k o e in
          ap (λ (l : List ℕ). option_told (given decoded (read_option n l))) there
          ∙ ap (λ (a : Answer Frame). option_told (given decoded a)) (option_read n g less o rest fits)
          ∙ (λ i. option_fields (size_laid g o fits i) ((wired g o fits).own i))
      go (inr (e', h)) = absurd (let z : ◌≡◌ {A = ℕ} 0 1 = cc in omega arith)

  module _ (n : ℕ) (es : List Entry) (fit : All (EntryFits n) es) (tab : List ℕ)
      (looked : (k : ℕ) → look_up (lay_options os) tab (length os) k ≡ given wire (counted os k))
      (slot : (k : ℕ) → k < length os → get_or tab k 0 ≡ start os k) where
    found : (k : ℕ) → told (option_values (get_or tab k 0)) (look_up (lay_options os) tab (length os) k) ≡ told_of os k
    found k = ap (told (option_values (get_or tab k 0))) (looked k) ∙ told_wired k (get_or tab k 0) (slot k)

    of_run : (next left : ℕ) → told (option_values (get_or tab next 0)) (next_of_run (lay_options os) tab (length os) (record { next = next; left = left })) ≡ cond (eqb left 0) (row 20 []) (told_of os next)
    unfolding next_of_run refuse◌when◌else◌
    of_run next left = go (eqb left 0) refl
      where
        go : (b : Bool) → eqb left 0 ≡ b → told (option_values (get_or tab next 0)) (next_of_run (lay_options os) tab (length os) (record { next = next; left = left })) ≡ cond b (row 20 []) (told_of os next)
        go true e = rw e
        go false e = rw e (found next)

    pub handed_to_c : HandedToC g es os tab
    handed_to_c =
        record {
          entries = λ k r e. e ∙ ap entry_told (next_entry_laid n es fit k);
          looked_up = λ k r e. e ∙ found k;
          options = λ word less k h r e.
              e ∙ ap (told (option_values (start os k))) (next_laid (read_option (settings_of word)) lay_option wire (OptionFits g) (option_read (settings_of word) g less) some_bytes os w k)
              ∙ told_wired k (start os k) (λ h. refl);
          runs = λ next left r e. e ∙ of_run next left;
          fields = λ word less k o e r is. is ∙ fields_told (settings_of word) less k o e;
        }

-- ---- the settings

by_bits : (word : ℕ) → ByBits word
by_bits word =
    record {
      discards = ((λ e. omega (arith, eqb-true (word / 1 % 2) 1 e)), (λ e. eq-eqb (word / 1 % 2) 1 (omega arith)));
      is_strict = (eqb-true (word / 2 % 2) 1, eq-eqb (word / 2 % 2) 1);
    }

-- ---- the payload

pub take_its_length : (n : ℕ) (l : List ℕ) → take (length (take n l)) l ≡ take n l
take_its_length zero l = refl
take_its_length (suc n) [] = refl
take_its_length (suc n) (x ∷ l) = ap (λ (t : List ℕ). x ∷ t) (take_its_length n l)

module _ (word : ℕ) (s tab tab' : List ℕ) (r : hub.Answer) (b : Bytes s) (long : 347 ≤ length tab) (h : Reads (read_payload (settings_of word) s) tab r tab') where
  abbrev g : Settings
  g = settings_of word

  -- over a payload that is laid out

  module _ (q : Payload) (laid : LaidOut g s q) where
    abbrev F : List ℕ
    F = lay_opening q.flags q.spare q.reserved

    four : length F ≡ 4
    four = length_opening q.flags q.spare q.reserved

    abbrev rd : Reading
    rd = record { opening = F; entries = q.entries; frames = map wire q.options }

    read : read_payload g s ≡ accepted rd
    read = ap (read_payload g) (sym laid.1) ∙ lay_read g q laid.0

    first_byte : get_or F 0 0 ≡ get_or s 0 0
    unfolding lay_parts lay_opening
    first_byte = ap (λ (l : List ℕ). get_or l 0 0) laid.1

    answer : r ≡ row 0 ((get_or s 0 0 / 32 * 32) ∷ length q.entries ∷ length q.options ∷ [])
    unfolding given
    answer =
        h.answers ∙ ap (λ (a : paper.Answer Reading). told summary_values (given summed a)) ((lent_exactly tab (read_payload g s)).enough long ∙ read)
        ∙ (λ i. row 0 (flag_bits (flags_laid (flags (first_byte i))) ∷ length q.entries ∷ length-map q.options wire i ∷ []))
        ∙ (λ i. row 0 (flags_by_name_laid.as_sent (get_or s 0 0) (b 0) i ∷ length q.entries ∷ length q.options ∷ []))

    entries_laid : entries_part s ≡ lay_entries q.entries
    unfolding lay_parts
    entries_laid = ap entries_part (sym laid.1) ∙ part_entries F (lay_entries q.entries) (lay_options q.options) four

    options_laid : options_part s ≡ lay_options q.options
    unfolding lay_parts
    options_laid = ap options_part (sym laid.1) ∙ part_options F (lay_entries q.entries) (lay_options q.options) four

    says : ReadSays g s rd
    says = read_says g s rd read

    sizes_pass : sized s ≡ accepted (entries_length s)
    unfolding sized read_payload
    sizes_pass = then_pass _ _ (then_accepted _ _ rd read).0

    parts_of : PartsOf q s (places_of s)
    unfolding entries_part options_part
    parts_of =
        let z = says.sizes_fit in
        let opts : length (options_part s) ≡ length s - (12 + entries_length s) = length-drop (12 + entries_length s) s in
        let ents : length (entries_part s) ≤ entries_length s = rw length-take (min-le_left _ _) in
        record {
          entries = take_its_length (entries_length s) (drop 8 s) ∙ entries_laid;
          entries_inside = omega arith;
          options = take_all (length (options_part s)) (drop (12 + entries_length s) s) (omega arith) ∙ options_laid;
          options_inside = omega arith;
        }

    parts : (p : Places) → p ≡ places_told r.number s → PartsOf q s p
    parts p e =
        let zero_number : r.number ≡ 0 = ap (λ (a : hub.Answer). a.number) answer in
        let here : p ≡ places_of s = e ∙ ap (λ (n : ℕ). places_told n s) zero_number ∙ ap (placed s) sizes_pass in
        subst (PartsOf q s) (sym here) parts_of

    table_is : tab' ≡ table_left g s tab
    table_is = h.slots

    looked : (k : ℕ) → look_up (lay_options q.options) tab' (length q.options) k ≡ given wire (counted q.options k)
    unfolding slots
    looked k =
        ap (λ (l : List ℕ). look_up l tab' (length q.options) k) (sym options_laid)
        ∙ ap (λ (t : List ℕ). look_up (options_part s) t (length q.options) k) table_is
        ∙ (demand3 g s b).looked_up q (((demand3 g s b).handed q).1 laid) tab long k

    slot : (k : ℕ) → k < length q.options → get_or tab' k 0 ≡ start q.options k
    unfolding given
    slot k inside =
        ap (λ (t : List ℕ). get_or t k 0) table_is
        ∙ (tables_left.payload g s tab).offsets long (map wire q.options) (ap (given (λ (x : Reading). x.frames)) read) k (omega (arith, length-map q.options wire))
        ∙ start_from g q.options laid.0.options_fit 0 k inside ∙ zero-add (start q.options k)

    told_to_c : ToldToC g q s tab' r
    told_to_c =
        record {
          answer = answer;
          parts = parts;
          handed = handed_to_c g q.options laid.0.options_fit (length q.options) q.entries laid.0.entries_fit tab' looked slot;
        }

  laid_out : r.number ≡ 0 → (q : Payload) × LaidOut g s q
  unfolding handed_out given
  laid_out z =
      let (rd, read) = h.zero z in
      let plain : read_payload g s ≡ accepted rd = sym ((lent_exactly tab (read_payload g s)).enough long) ∙ read in
      (shown rd, ((demand3 g s b).handed (shown rd)).0 (ap (given shown) plain))

  empty_parts : (r.number ≡ 0 → ⊥) → (p : Places) → p ≡ places_told r.number s → p ≡ nowhere
  empty_parts nz p e = e ∙ ap (λ (t : Bool). cond t (placed s (sized s)) nowhere) (ne_eqb r.number 0 nz)

  pub of_the_hub : OfTheHub word s tab' r
  of_the_hub =
      record {
        settings = by_bits word;
        exactly = (laid_out, λ a. ap (λ (x : hub.Answer). x.number) (answer a.0 a.1));
        after = told_to_c;
        empty_parts = empty_parts;
      }

-- ---- the index alone

module _ (word : ℕ) (s tab tab' : List ℕ) (r : hub.Answer) (b : Bytes s) (long : 347 ≤ length tab) (h : Indexes (settings_of word) s tab r tab') where
  abbrev told_settings : Settings
  told_settings = settings_of word

  index_accepted : lent tab (read_index told_settings s) ≡ read_index told_settings s
  index_accepted = (lent_exactly tab (read_index told_settings s)).enough long

  module _ (os : List Opt) (laid : IndexLaidOut told_settings s os) where
    index_answer : r ≡ row 0 (length os ∷ [])
    unfolding given
    index_answer =
        h.answers ∙ ap (λ (a : Answer (List Frame)). told one_value (given length a)) (index_accepted ∙ index_laid told_settings s os laid)
        ∙ ap (λ (n : ℕ). row 0 (n ∷ [])) (length-map os wire)

    index_slot : (k : ℕ) → k < length os → get_or tab' k 0 ≡ start os k
    index_slot k inside =
        ap (λ (t : List ℕ). get_or t k 0) h.slots
        ∙ (tables_left.index told_settings s tab).offsets long (map wire os) (index_laid told_settings s os laid) k (omega (arith, length-map os wire))
        ∙ start_from _ os laid.1 0 k inside ∙ zero-add (start os k)

    index_looked : (k : ℕ) → look_up (lay_options os) tab' (length os) k ≡ given wire (counted os k)
    unfolding slots
    index_looked k = (λ i. look_up (laid.2 i) (h.slots i) (length os) k) ∙ (index_exact told_settings s b).looked_up os laid tab long k

    -- whether unknown ones are discarded is not asked of one option
    index_handed : HandedToC told_settings [] os tab'
    index_handed =
        let t = handed_to_c (undecided told_settings) os laid.1 (length os) [] tt tab' index_looked index_slot in
        record { entries = t.entries; looked_up = t.looked_up; options = t.options; runs = t.runs; fields = t.fields }

  index_laid_out : r.number ≡ 0 → (os : List Opt) × IndexLaidOut told_settings s os
  unfolding given
  index_laid_out z =
      let (fs, read) = h.zero z in
      (map fields fs, ((index_exact told_settings s b).handed (map fields fs)).0 (ap (given (map fields)) (sym index_accepted ∙ read)))

  pub of_the_index : OfTheIndex word s tab' r
  of_the_index =
      record {
        settings = by_bits word;
        exactly = (index_laid_out, λ a. ap (λ (x : hub.Answer). x.number) (index_answer a.0 a.1));
        answer = index_answer;
        handed = index_handed;
      }

-- ---- the message

module _ (word : ℕ) (m tab tab' : List ℕ) (r : hub.Answer) (b : Bytes m) (long : 347 ≤ length tab) (h : Reads (read_message (settings_of word) m) tab r tab') where
  message_read : r.number ≡ 0 → (rd : Reading) × (read_message (settings_of word) m ≡ accepted rd)
  message_read z = let (rd, read) = h.zero z in (rd, sym ((lent_exactly tab (read_message (settings_of word) m)).enough long) ∙ read)

  -- the reading of the payload behind the header promises the same
  payload_behind : r.number ≡ 0 → Reads (read_payload (settings_of word) (drop 16 m)) tab r tab'
  unfolding read_message
  payload_behind z =
      let (rd, read) = message_read z in
      let same : read_message (settings_of word) m ≡ read_payload (settings_of word) (drop 16 m) = read ∙ sym (then_accepted _ _ rd read).1 in
      subst (λ (a : paper.Answer Reading). Reads a tab r tab') same h

  pub of_the_message : OfTheMessage word m tab' r
  unfolding given
  of_the_message =
      record {
        exactly = (
          (λ z. let (rd, read) = message_read z in (shown rd, ((message_exact (settings_of word) m b).handed (shown rd)).0 (ap (given shown) read))),
          (λ a.
              let (rd, read, same) = given_accepted shown (read_message (settings_of word) m) a.0 (((message_exact (settings_of word) m b).handed a.0).1 a.1) in
              ap (λ (x : hub.Answer). x.number) (h.answers ∙ ap (λ (x : paper.Answer Reading). told summary_values (given summed x)) ((lent_exactly tab (read_message (settings_of word) m)).enough long ∙ read))),
        );
        after = λ z. of_the_hub word (drop 16 m) tab tab' r (bytes_drop m 16 b) long (payload_behind z);
      }
