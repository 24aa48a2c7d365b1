-- What the calls around a payload accept: a table that is lent, the index alone, the message with its header. Assumes nothing.
use mathlib.Core.Path.{◌≡◌, refl, sym, ap, ◌∙◌, subst}
use mathlib.Core.Bool.{true}
use mathlib.Core.List.{List, [], ◌∷◌, ◌++◌, map}
use Prim.Native.Nat.{ℕ, ◌+◌, ◌*◌, ◌/◌, ◌%◌, ◌≤◌}
use native.Mathlib.Omega.{arith}
use lib.ListN.{length, take, drop, get_or, length-map, take-append-drop}
use lib.Seq.{drop_at}
use borrow.Author.Tests.{ltb-false, eqb-true, eqb-false, lt-ltb, le-ltb, ne_eqb}
use Rattle.numbers.specs.Answers.{Answer, accepted, refused, pass, ◌>>=◌, ◌>>◌, refuse◌when◌else◌, given, All}
use Rattle.numbers.specs.Bytes.{Bytes, be16, be32, at16, at32}
use Rattle.numbers.proofs.AnswerLaws.{when_hit, when_pass, when_accepted, given_accepted, then_accepted, then_pass, test_accepted, refuse_pass}
use Rattle.numbers.proofs.ByteLaws.{bytes_drop, be16_at, be32_at, take_tab}
use Rattle.sd_format.specs.Settings.{Settings}
use Rattle.sd_format.specs.Options.{Opt}
use Rattle.sd_format.specs.Kinds.{Kind, configuration, load_balancing, address, unknown, kind_of, judge_content}
use Rattle.sd_format.specs.Sequences.{each_from, counted}
use Rattle.sd_format.specs.Frames.{Frame, size, permitted, permit, all_options, read_options, slots, lent, table_after, read_index, look_up}
use Rattle.sd_format.specs.Fields.{fields}
use Rattle.sd_format.specs.Layout.{OptionFits, lay_options, wire, lay, Header, lay_header}
use Rattle.sd_format.specs.Payload.{options_part, read_payload, frames_of, shown, handed_out, header, read_message}
use Rattle.sd_format.specs.Demand3.{LentExactly, undecided, IndexLaidOut, IndexExact, MessageExact}
use Rattle.sd_format.specs.Theorems.{TablesLeft}
use Rattle.sd_format.proofs.SequenceLaws.{counted_map}
use Rattle.sd_format.proofs.TableLaws.{Few, table_law}
use Rattle.sd_format.proofs.OptionLaws.{all_judged_alike, read_parts, permits_all, few_slots_used, looked_up, options_lay, options_read, options_own}
use Rattle.sd_format.proofs.PayloadLaws.{lay_handed, read_says, options_part_length}
use Rattle.sd_format.proofs.Demand3.{demand3}

-- ---- the lent table

pub lent_exactly : {A : Type 0} (tab : List ℕ) (a : Answer A) → LentExactly tab a
unfolding lent slots
lent_exactly tab a =
    record {
      short = λ h. when_hit _ _ a (lt-ltb (length tab) 347 h);
      enough = λ h. when_pass _ _ a (le-ltb (length tab) 347 h);
    }

-- no call reads more options than there are slots

payload_few : (g : Settings) (s : List ℕ) → Few (frames_of (read_payload g s))
payload_few g s fs e =
    let (r, read, same) = given_accepted _ _ fs e in
    let says = read_says g s r read in
    let short : length (options_part s) ≤ 1388 = rw (options_part_length s says.sizes_fit) says.sizes_fit.short_options in
    rw (← same) (few_slots_used g (options_part s) r.frames ((read_parts g _ r.frames).0 says.frames_read).0 short)

message_few : (g : Settings) (s : List ℕ) → Few (frames_of (read_message g s))
unfolding read_message given
message_few g s fs e =
    let (r, read, same) = given_accepted _ _ fs e in
    payload_few g (drop 16 s) fs (ap frames_of (then_accepted _ _ _ read).1 ∙ ap accepted same)

index_few : (g : Settings) (s : List ℕ) → Few (read_index g s)
unfolding read_index
index_few g s fs e = let (short, read) = when_accepted _ _ _ _ e in few_slots_used g s fs read (ltb-false 1388 (length s) short)

pub tables_left : TablesLeft
tables_left = record {
  payload = λ g s tab. table_law tab _ (payload_few g s);
  message = λ g s tab. table_law tab _ (message_few g s);
  index = λ g s tab. table_law tab _ (index_few g s);
}

-- ---- the index alone

always : (g : Settings) (k : Kind) (body : List ℕ) → permitted (undecided g) k body ≡ true
unfolding permitted
always g configuration body = refl
always g load_balancing body = refl
always g (address family role) body = refl
always g unknown body = refl

all_always : (g : Settings) (fs : List Frame) → All (λ f. permitted (undecided g) (kind_of f.type) f.body ≡ true) fs
all_always g [] = tt
all_always g (f ∷ fs) = (always g (kind_of f.type) f.body, all_always g fs)

-- how what an option holds is judged does not hang on the discard setting
undecided_content : (g : Settings) (k : Kind) (body : List ℕ) → judge_content (undecided g) k body ≡ judge_content g k body
unfolding judge_content
undecided_content g configuration body = refl
undecided_content g load_balancing body = refl
undecided_content g (address family role) body = refl
undecided_content g unknown body = refl

undecided_all : (g : Settings) (s : List ℕ) → all_options (undecided g) s ≡ all_options g s
undecided_all g s = all_judged_alike (undecided g) g s (undecided_content g)

-- the options read with the discard setting on are all options
pub index_reads : (g : Settings) (s : List ℕ) → read_options (undecided g) s ≡ all_options g s
unfolding read_options ◌>>=◌
index_reads g s = go (all_options (undecided g) s) ∙ undecided_all g s
  where
    go : (a : Answer (List Frame)) → (a >>= λ fs. each_from size (permit (undecided g)) 0 fs >> accepted fs) ≡ a
    go (accepted fs) = then_pass _ _ ((permits_all (undecided g) fs).1 (all_always g fs))
    go (refused r) = refl

-- what is laid out is read
module _ (g : Settings) (s : List ℕ) (os : List Opt) (h : IndexLaidOut g s os) where
  laid_read : all_options g s ≡ accepted (map wire os)
  laid_read = sym (index_reads g s) ∙ rw (← h.2) (options_lay (undecided g) os h.1)

  pub index_laid : read_index g s ≡ accepted (map wire os)
  unfolding read_index
  index_laid = when_pass _ _ _ (le-ltb 1388 (length s) h.0) ∙ laid_read

  index_looked_up : (tab : List ℕ) → slots ≤ length tab → (k : ℕ) → look_up s (table_after tab (read_index g s)) (length os) k ≡ given wire (counted os k)
  index_looked_up tab long k =
      (λ i. look_up s (table_after tab (index_laid i)) (sym (length-map os wire) i) k)
      ∙ looked_up g s (map wire os) laid_read h.0 tab long k ∙ counted_map wire os k

pub index_exact : (g : Settings) (s : List ℕ) → Bytes s → IndexExact g s
unfolding read_index given refuse◌when◌else◌
index_exact g s b =
    record {
      handed = λ os. (
        (λ e.
            let (fs, read, own) = given_accepted (map fields) _ os e in
            let (long, all_read) = when_accepted _ _ _ _ read in
            let (fits, laid, back) = options_read (undecided g) s b fs (index_reads g s ∙ all_read) in
            subst (λ (l : List Opt). (length s ≤ 1388) × All (OptionFits (undecided g)) l × (lay_options l ≡ s)) own (ltb-false 1388 (length s) long, fits, laid)),
        (λ h. ap (given (map fields)) (index_laid g s os h) ∙ ap accepted (options_own (undecided g) os h.1)),
      );
      looked_up = index_looked_up g s;
    }

-- ---- the message

-- the bytes of a header, laid out again
sixteen_again : (s : List ℕ) → Bytes s → 16 ≤ length s
    → be32 (at32 s 0) ++ (be32 (at32 s 4) ++ (be16 (at16 s 8) ++ (be16 (at16 s 10) ++ (get_or s 12 0 ∷ get_or s 13 0 ∷ get_or s 14 0 ∷ get_or s 15 0 ∷ [])))) ≡ take 16 s
sixteen_again s b long =
    rw (take_tab 16 s long, be32_at s 0 b, be16_at s 0 b, be16_at s 2 b, be32_at s 4 b, be16_at s 4 b, be16_at s 6 b, be16_at s 8 b, be16_at s 10 b)

header_again : (s : List ℕ) → Bytes s → 16 ≤ length s → at32 s 0 ≡ 0xffff8100 → at16 s 8 ≡ 0 → get_or s 13 0 ≡ 1 → get_or s 14 0 ≡ 0x02 → get_or s 15 0 ≡ 0
    → lay_header (record { length_field = at32 s 4; session = at16 s 10; protocol_version = get_or s 12 0 }) ≡ take 16 s
unfolding lay_header
header_again s b long id client version type code =
    sym (λ i. be32 (id i) ++ (be32 (at32 s 4) ++ (be16 (client i) ++ (be16 (at16 s 10) ++ (get_or s 12 0 ∷ version i ∷ type i ∷ code i ∷ [])))))
    ∙ sixteen_again s b long

-- a header is read from its layout
header_lay : (h : Header) (rest : List ℕ) → (h.session ≡ 0 → ⊥) → header (lay_header h ++ rest) ≡ pass
unfolding header lay_header be32 be16 at32 at16 refuse◌when◌else◌
header_lay h rest some =
    let session : h.session / 256 * 256 + h.session % 256 ≡ h.session = omega arith in
    rw (le-ltb (length (lay_header h ++ rest)) 16 (omega arith), session, ne_eqb h.session 0 some)

-- the header that these bytes are
abbrev header_of : List ℕ → Header
header_of s = record { length_field = at32 s 4; session = at16 s 10; protocol_version = get_or s 12 0 }

header_says : (s : List ℕ) → Bytes s → header s ≡ pass → (at16 s 10 ≡ 0 → ⊥) × (16 ≤ length s) × (lay_header (header_of s) ≡ take 16 s)
unfolding header
header_says s b e =
    let (a1, e1) = when_accepted _ _ _ _ e in
    let (a2, e2) = (test_accepted _ _ _ _).0 e1 in
    let (a3, e3) = (test_accepted _ _ _ _).0 e2 in
    let (a4, e4) = when_accepted _ _ _ _ e3 in
    let (a5, e5) = (test_accepted _ _ _ _).0 e4 in
    let (a6, e6) = (test_accepted _ _ _ _).0 e5 in
    let a7 = (refuse_pass _ _).0 e6 in
    let long : 16 ≤ length s = ltb-false (length s) 16 a1 in (
      eqb-false (at16 s 10) 0 a4,
      long,
      header_again s b long (eqb-true (at32 s 0) 0xffff8100 a2) (eqb-true (at16 s 8) 0 a3) (eqb-true (get_or s 13 0) 1 a5) (eqb-true (get_or s 14 0) 0x02 a6) (eqb-true (get_or s 15 0) 0 a7),
    )

length_header : (h : Header) → length (lay_header h) ≡ 16
unfolding lay_header be32 be16
length_header h = refl

pub message_exact : (g : Settings) (s : List ℕ) → Bytes s → MessageExact g s
unfolding read_message handed_out given
message_exact g s b =
    record {
      handed = λ p. (
        (λ e.
            let (r, read, same) = given_accepted shown _ p e in
            let (head, later) = then_accepted _ _ _ read in
            let (some, long, again) = header_says s b head in
            let (fits, laid) = ((demand3 g (drop 16 s) (bytes_drop s 16 b)).handed p).0 (ap (given shown) later ∙ ap accepted same) in
            (header_of s, some, fits, rw (again, laid) (take-append-drop 16 s))),
        (λ h.
            rw (← h.3)
            (ap (given shown) (then_pass _ _ (header_lay h.0 (lay p) h.1))
            ∙ rw (drop_at (lay_header h.0) (lay p) 16 (length_header h.0)) (lay_handed g p h.2))),
      );
    }
