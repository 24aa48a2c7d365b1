-- The whole payload: what is accepted is what is laid out. Assumes nothing.
use mathlib.Core.Path.{◌≡◌, refl, sym, ◌∙◌, subst}
use mathlib.Core.Logic.{◌↔◌}
use mathlib.Core.List.{List, [], ◌∷◌, ◌++◌, append_assoc, map}
use Prim.Native.Nat.{ℕ, ◌+◌, ◌*◌, ◌/◌, ◌%◌, ◌≤◌, ◌<◌}
use native.Mathlib.Omega.{arith}
use lib.ListN.{length, take, drop, get_or, length-append, length-drop, length-map, take-append-drop}
use lib.Seq.{take_at, drop_at, drop-drop, length-take-le, take-append_seam, drop-append_seam, take_all}
use borrow.Author.Tests.{ltb-false, eqb-true, le-ltb, eq-eqb}
use Rattle.numbers.specs.Answers.{accepted, pass, refuse◌when◌else◌, given, All}
use Rattle.numbers.specs.Bytes.{Bytes, be16, be24, be32, at16, at24, at32}
use Rattle.numbers.proofs.AnswerLaws.{when_accepted, accepted_inj, bind_accepted, bind_pass, then_accepted, then_pass, test_accepted, refuse_pass}
use Rattle.numbers.proofs.ByteLaws.{bytes_drop, bytes_take, be16_at, be24_at, be32_at, tab, take_tab, at32_be, at32_drop}
use Rattle.sd_format.specs.Settings.{Settings}
use Rattle.sd_format.specs.Options.{has}
use Rattle.sd_format.specs.Frames.{read_options}
use Rattle.sd_format.specs.Fields.{fields}
use Rattle.sd_format.specs.Entries.{Entry, sixteen, read_entries, placed_entry}
use Rattle.sd_format.specs.Layout.{bit, lay_all, lay_entry, lay_entries, lay_options, wire, Flags, Payload, lay_opening, sized, lay_parts, lay, Fits, EntryFits}
use Rattle.sd_format.specs.Payload.{sizes, entries_length, options_length, entries_part, options_part, Reading, read_payload, flags, shown, handed_out}
use Rattle.sd_format.proofs.BitLaws.{num, num_small, bit_num, num_has, has_num}
use Rattle.sd_format.proofs.SequenceLaws.{all_exact, all_laid_read}
use Rattle.sd_format.proofs.OptionLaws.{options_lay, options_read, options_own}
use Rattle.sd_format.proofs.EntryLaws.{length_entry, entry_lay, entry_read}

-- ---- the opening bytes

module _ (f : Flags) (spare reserved : ℕ) (five : spare < 32) where
  abbrev byte0 : ℕ
  byte0 = bit 0x80 f.reboot + bit 0x40 f.unicast + bit 0x20 f.initial_data_control + spare

  -- the bits of byte 0, as numbers
  bits0 : byte0 ≡ 0x80 * num f.reboot + 0x40 * num f.unicast + 0x20 * num f.initial_data_control + spare
  bits0 = rw (bit_num 0x80 f.reboot, bit_num 0x40 f.unicast, bit_num 0x20 f.initial_data_control) refl

  flags_back : flags byte0 ≡ f
  flags_back =
      let r = num_small f.reboot in
      let u = num_small f.unicast in
      let c = num_small f.initial_data_control in
      let reboot-is = has_num byte0 0x80 f.reboot (omega (arith, bits0)) in
      let unicast-is = has_num byte0 0x40 f.unicast (omega (arith, bits0)) in
      let control-is = has_num byte0 0x20 f.initial_data_control (omega (arith, bits0)) in
      λ i. record { reboot = reboot-is i; unicast = unicast-is i; initial_data_control = control-is i }

  spare_back : byte0 % 32 ≡ spare
  spare_back = omega (arith, bits0, num_small f.reboot, num_small f.unicast, num_small f.initial_data_control)

  pub opening_back : (flags (get_or (lay_opening f spare reserved) 0 0) ≡ f) × (get_or (lay_opening f spare reserved) 0 0 % 32 ≡ spare) × (at24 (lay_opening f spare reserved) 1 ≡ reserved)
  unfolding lay_opening at24 at16 be24 be16
  opening_back = (flags_back, spare_back, omega arith)

-- the flags of a byte, laid out again
byte_again : (x : ℕ) → x < 256 → bit 0x80 (has x 0x80) + bit 0x40 (has x 0x40) + bit 0x20 (has x 0x20) + x % 32 ≡ x
byte_again x h =
    let bit5 : x / 0x20 ≡ 2 * (x / 0x40) + x / 0x20 % 2 = omega arith in
    let bit6 : x / 0x40 ≡ 2 * (x / 0x80) + x / 0x40 % 2 = omega arith in
    let bit7 : x / 0x80 % 2 ≡ x / 0x80 = omega arith in
    rw (bit_num 0x80 (has x 0x80), bit_num 0x40 (has x 0x40), bit_num 0x20 (has x 0x20), num_has (x / 0x80), num_has (x / 0x40), num_has (x / 0x20)) (omega arith)

pub opening_again : (o : List ℕ) → Bytes o → length o ≡ 4 → lay_opening (flags (get_or o 0 0)) (get_or o 0 0 % 32) (at24 o 1) ≡ o
unfolding lay_opening
opening_again o b n =
    let four : tab 4 (λ i. get_or o i 0) ≡ o = sym (take_tab 4 o (omega arith)) ∙ take_all 4 o (omega arith) in
    rw (byte_again (get_or o 0 0) (b 0), be24_at o 1 b, be16_at o 2 b) four

pub length_opening : (f : Flags) (spare reserved : ℕ) → length (lay_opening f spare reserved) ≡ 4
unfolding lay_opening be24 be16
length_opening f spare reserved = refl

-- ---- the sizes

pub record Sizes (n entries options : ℕ) : Type 0 where
  pub whole : n ≡ 12 + entries + options
  pub short_entries : entries ≤ 1388
  pub sixteens : entries % 16 ≡ 0
  pub short_options : options ≤ 1388
  pub short : 12 + entries + options ≤ 1400

pub sizes_said : (n el ol : ℕ) → sizes n el ol ≡ pass → Sizes n el ol
unfolding sizes
sizes_said n el ol e =
    let (a1, e1) = when_accepted _ _ _ _ e in
    let (a2, e2) = when_accepted _ _ _ _ e1 in
    let (a3, e3) = (test_accepted _ _ _ _).0 e2 in
    let (a4, e4) = when_accepted _ _ _ _ e3 in
    let (a5, e5) = when_accepted _ _ _ _ e4 in
    let (a6, e6) = when_accepted _ _ _ _ e5 in
    let (a7, e7) = when_accepted _ _ _ _ e6 in
    record {
      whole = eqb-true _ _ ((refuse_pass _ _).0 e7);
      short_entries = ltb-false _ _ a2;
      sixteens = eqb-true _ _ a3;
      short_options = ltb-false _ _ a5;
      short = ltb-false _ _ a6;
    }

sizes_met : (n el ol : ℕ) → Sizes n el ol → sizes n el ol ≡ pass
unfolding sizes refuse◌when◌else◌
sizes_met n el ol h =
    rw (
      le-ltb n 12 (omega arith),
      le-ltb 1388 el h.short_entries,
      eq-eqb (el % 16) 0 h.sixteens,
      le-ltb n (12 + el) (omega arith),
      le-ltb 1388 ol h.short_options,
      le-ltb 1400 (12 + el + ol) h.short,
      le-ltb n (12 + el + ol) (omega arith),
      eq-eqb n (12 + el + ol) h.whole,
    )

-- ---- the parts of a payload that is laid out

module _ (F E O : List ℕ) (four : length F ≡ 4) where
  abbrev L : List ℕ
  L = F ++ (sized E ++ sized O)

  drop_word : (n : ℕ) (t : List ℕ) → drop 4 (be32 n ++ t) ≡ t
  unfolding be32 be16
  drop_word n t = refl

  length_word : (n : ℕ) → length (be32 n) ≡ 4
  unfolding be32 be16
  length_word n = refl

  pub part_opening : take 4 L ≡ F
  part_opening = take_at F _ 4 four

  part_four : drop 4 L ≡ be32 (length E) ++ (E ++ sized O)
  unfolding sized
  part_four = drop_at F _ 4 four ∙ append_assoc (be32 (length E)) E (sized O)

  part_eight : drop 8 L ≡ E ++ sized O
  part_eight = sym (drop-drop 4 4 L) ∙ rw (part_four, drop_word)

  part_after : drop (8 + length E) L ≡ sized O
  part_after = sym (drop-drop (length E) 8 L) ∙ rw (part_eight, drop-append_seam)

  part_last : drop (12 + length E) L ≡ O
  unfolding sized
  part_last =
      let e : 12 + length E ≡ 8 + length E + 4 = omega arith in
      rw e (sym (drop-drop 4 (8 + length E) L) ∙ rw (part_after, drop_word))

  pub part_entries_length : entries_length L ≡ length E
  unfolding entries_length
  part_entries_length = sym (at32_drop L 4) ∙ rw part_four (at32_be (length E) (E ++ sized O))

  pub part_options_length : options_length L ≡ length O
  unfolding options_length sized
  part_options_length = rw part_entries_length (sym (at32_drop L (8 + length E)) ∙ rw part_after (at32_be (length O) O))

  pub part_entries : entries_part L ≡ E
  unfolding entries_part
  part_entries = rw (part_entries_length, part_eight, take-append_seam)

  pub part_options : options_part L ≡ O
  unfolding options_part
  part_options = rw part_entries_length part_last

  pub part_length : length L ≡ 12 + length E + length O
  unfolding sized
  part_length = simp (length-append, length_word) (omega arith)

-- ---- the parts of any bytes, laid out again

word_again : (s : List ℕ) (n : ℕ) → Bytes s → n + 4 ≤ length s → be32 (at32 s n) ≡ take 4 (drop n s)
word_again s n b h =
    let d : Bytes (drop n s) = bytes_drop s n b in
    rw (← (at32_drop s n), be32_at (drop n s) 0 d, be16_at (drop n s) 0 d, be16_at (drop n s) 2 d, take_tab 4 (drop n s) (rw length-drop (omega arith)))

rejoin : (n k : ℕ) (s : List ℕ) → take k (drop n s) ++ drop (n + k) s ≡ drop n s
rejoin n k s = rw (← (drop-drop k n s)) (take-append-drop k (drop n s))

module _ (s : List ℕ) (sz : Sizes (length s) (entries_length s) (options_length s)) where
  entries_part_length : length (entries_part s) ≡ entries_length s
  unfolding entries_part
  entries_part_length = length-take-le (entries_length s) (drop 8 s) (rw length-drop (omega arith))

  pub options_part_length : length (options_part s) ≡ options_length s
  unfolding options_part
  options_part_length = rw length-drop (omega arith)

module _ (s : List ℕ) (b : Bytes s) (sz : Sizes (length s) (entries_length s) (options_length s)) where
  word1 : be32 (entries_length s) ≡ take 4 (drop 4 s)
  unfolding entries_length
  word1 = word_again s 4 b (omega arith)

  word2 : be32 (options_length s) ≡ take 4 (drop (8 + entries_length s) s)
  unfolding options_length
  word2 = word_again s (8 + entries_length s) b (omega arith)

  whole_again : take 4 s ++ (sized (entries_part s) ++ sized (options_part s)) ≡ s
  unfolding sized entries_part options_part
  whole_again =
      let e : 12 + entries_length s ≡ 8 + entries_length s + 4 = omega arith in
      rw (entries_part_length s sz, options_part_length s sz, word1, word2, e, rejoin (8 + entries_length s) 4 s, append_assoc, rejoin 8 (entries_length s) s, rejoin 4 4 s, take-append-drop 4 s)

bytes_entries : (s : List ℕ) → Bytes s → Bytes (entries_part s)
unfolding entries_part
bytes_entries s b = bytes_take (drop 8 s) (entries_length s) (bytes_drop s 8 b)

pub bytes_options : (s : List ℕ) → Bytes s → Bytes (options_part s)
unfolding options_part
bytes_options s b = bytes_drop s (12 + entries_length s) b

-- ---- all entries

entries_exact : (n : ℕ) (s : List ℕ) → Bytes s → (es : List Entry) → (read_entries n s ≡ accepted es) ↔ (All (EntryFits n) es × (lay_entries es ≡ s))
unfolding read_entries
entries_exact n s b es =
    all_exact (placed_entry n) sixteen lay_entry (EntryFits n) (λ e rest w. entry_lay n e rest w) (entry_read n) (λ e w. length_entry e) (λ e w. omega arith) s b es

entries_lay : (n : ℕ) (es : List Entry) → All (EntryFits n) es → read_entries n (lay_entries es) ≡ accepted es
unfolding read_entries
entries_lay n es w =
    all_laid_read (placed_entry n) sixteen lay_entry (EntryFits n) (λ e rest v. entry_lay n e rest v) (entry_read n) (λ e v. length_entry e) (λ e v. omega arith) es w

length_entries : (es : List Entry) → length (lay_entries es) ≡ 16 * length es
unfolding lay_all
length_entries [] = refl
length_entries (e ∷ es) = rw (length-append, length_entry, length_entries es) (omega arith)

-- ---- the theorem

module _ (g : Settings) where
  -- what is laid out is read
  pub lay_read : (p : Payload) → Fits g p
      → read_payload g (lay p) ≡ accepted (record { opening = lay_opening p.flags p.spare p.reserved; entries = p.entries; frames = map wire p.options })
  unfolding read_payload lay_parts
  lay_read p h =
      let F : List ℕ = lay_opening p.flags p.spare p.reserved in
      let E : List ℕ = lay_entries p.entries in
      let O : List ℕ = lay_options p.options in
      let four = length_opening p.flags p.spare p.reserved in
      let len = part_length F E O four in
      let count : length (map wire p.options) ≡ length p.options = length-map p.options wire in
      let sz : Sizes (12 + length E + length O) (length E) (length O) =
      record {
        whole = refl;
        short_entries = h.entries_short;
        sixteens = omega (arith, length_entries p.entries);
        short_options = h.options_short;
        short = rw len at h.all_short;
      } in
      rw (len, part_entries_length F E O four, part_options_length F E O four, part_options F E O four, part_entries F E O four, part_opening F E O four)
      (then_pass _ _ (sizes_met _ _ _ sz) ∙ bind_pass _ _ (map wire p.options) (options_lay g p.options h.options_fit)
      ∙ bind_pass _ _ p.entries (rw count (entries_lay _ p.entries h.entries_fit)))

  pub lay_handed : (p : Payload) → Fits g p → handed_out g (lay p) ≡ accepted p
  unfolding handed_out shown given
  lay_handed p h =
      let (flags-are, spare-is, reserved-is) = opening_back p.flags p.spare p.reserved h.five_bits in
      let own = options_own g p.options h.options_fit in
      rw (lay_read p h)
      (λ i. accepted (record { flags = flags-are i; spare = spare-is i; reserved = reserved-is i; entries = p.entries; options = own i }))

  -- what an accepted reading says of its parts
  pub record ReadSays (s : List ℕ) (r : Reading) : Type 0 where
    pub sizes_fit : Sizes (length s) (entries_length s) (options_length s)
    pub opening_is : r.opening ≡ take 4 s
    pub frames_read : read_options g (options_part s) ≡ accepted r.frames
    pub entries_read : read_entries (length r.frames) (entries_part s) ≡ accepted r.entries

  pub read_says : (s : List ℕ) (r : Reading) → read_payload g s ≡ accepted r → ReadSays s r
  unfolding read_payload
  read_says s r e =
      let (v, e1) = then_accepted _ _ _ e in
      let (fs, e2, e3) = bind_accepted _ _ _ e1 in
      let (es, e4, e5) = bind_accepted _ _ _ e3 in
      subst (ReadSays s) (accepted_inj _ r e5) (record { sizes_fit = sizes_said _ _ _ v; opening_is = refl; frames_read = e2; entries_read = e4 })

  -- what is read is laid out
  pub read_lay : (s : List ℕ) (r : Reading) → Bytes s → read_payload g s ≡ accepted r → Fits g (shown r) × (lay (shown r) ≡ s)
  unfolding shown lay_parts
  read_lay s r b e =
      let says = read_says s r e in
      let sz = says.sizes_fit in
      let opening = says.opening_is in
      let (fits, options_laid, back) = options_read g (options_part s) (bytes_options s b) r.frames says.frames_read in
      let (entries_fit, entries_laid) = (entries_exact _ (entries_part s) (bytes_entries s b) r.entries).0 says.entries_read in
      let four : length r.opening ≡ 4 = rw opening (length-take-le 4 s (omega arith)) in
      let again = opening_again r.opening (rw opening (bytes_take s 4 b)) four in
      let whole : lay (shown r) ≡ s = rw (again, opening, entries_laid, options_laid) (whole_again s b sz) in (
        record {
          five_bits = omega arith;
          entries_short = rw (entries_laid, entries_part_length s sz) sz.short_entries;
          options_short = rw (options_laid, options_part_length s sz) sz.short_options;
          all_short = rw whole (omega arith);
          entries_fit = rw (length-map r.frames fields) entries_fit;
          options_fit = fits;
        },
        whole,
      )
