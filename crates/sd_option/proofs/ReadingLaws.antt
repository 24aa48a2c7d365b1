-- The reading of one option: its frame; its protocol, where the code finds it; what an answer to it says of the definitions; its string
-- after all else. Assumes nothing.
use Rattle.std.specs.Prelude.{Result, Ok, Err, MatchResult}
use mathlib.Core.Path.{◌≡◌, refl, sym, ap, ◌∙◌, subst}
use mathlib.Core.Bool.{Bool, false}
use mathlib.Core.List.{List, []}
use Prim.Native.Nat.{ℕ, ◌+◌, ◌-◌, ◌≤◌}
use native.Mathlib.Omega.{arith}
use lib.ListN.{length, take, drop, get_or, length-drop}
use lib.Dec.{eqb}
use lib.Seq.{length-take-le, get_or-take, get_or-drop}
use borrow.Author.Tests.{le-ltb, eqb-true}
use Rattle.numbers.specs.Refusals.{Refusal, moved}
use Rattle.numbers.specs.Answers.{Answer, accepted, refused, Verdict, pass, ◌>>=◌, ◌>>◌, further, given, part}
use Rattle.numbers.proofs.AnswerLaws.{given_accepted, given_refused, then_accepted, when_pass, refuse_pass}
use Rattle.sd_format.specs.Settings.{Settings}
use Rattle.sd_format.specs.Options.{Family, ipv4, ipv6, Role, has, width, protocol}
use Rattle.sd_format.specs.Kinds.{Kind, address, Length, exactly, Row, row, row_of, kind_of, judge_length, judge_protocol, judge_content, unscanned, judge_kind}
use Rattle.sd_format.specs.Layout.{lay_type, lay_length}
use Rattle.sd_format.specs.Frames.{Frame, frame, one_option, read_option}
use Rattle.sd_format.proofs.KindLaws.{row_configuration, row_load_balancing, row_address, row_unknown, type-cases}
use Rattle.sd_format.proofs.FrameLaws.{frame_says, option_says}
use Rattle.sd_format.proofs.FaultLaws.{option_told}
use Rattle.refusal.specs.declared.Refusal as code
use Rattle.refusal.specs.Said.{said, verdict_said, most, moved_capped}
use Rattle.refusal.proofs.PlaceLaws.{uncapped}
use Rattle.sd_option.specs.declared.reading.OptionHead.{OptionHead}
use Rattle.sd_option.specs.declared.kinds.KindRow.{KindRow}
use Rattle.sd_option.specs.Kinds.{has_protocol, encoded, length_said}
use Rattle.sd_option.specs.Reading.{head_of, option_said, behind_type, body_of, body_length, carried, protocol_verdict, string_verdict, Halves}
use Rattle.sd_option.proofs.KindLaws.{length_back, taken_carried}

-- ---- the frame

-- the option of `n` bytes after the type that stands in front of `s`
abbrev pub front : List ℕ → ℕ → Frame
front s n = record { type = get_or s 2 0; body = take n (drop 3 s) }

pub front_length : (s : List ℕ) (n : ℕ) → 3 + n ≤ length s → length (take n (drop 3 s)) ≡ n
front_length s n h = length-take-le n (drop 3 s) (rw length-drop (omega arith))

-- what its acceptance says
pub record Framed (s : List ℕ) (n : ℕ) : Type 0 where
  pub some : 1 ≤ n
  pub within : 3 + n ≤ length s
  pub reads : frame s ≡ accepted (front s n)

pub framed : (s : List ℕ) (n : ℕ) → given body_length (frame s) ≡ accepted n → Framed s n
framed s n e =
    let (f, reads, len) = given_accepted body_length (frame s) n e in
    let w = frame_says s f reads in
    let same : f ≡ front s (length f.body) = rw (w.type_at, w.body_at) in
    subst (Framed s) len (record { some = w.some_body; within = w.within; reads = reads ∙ ap accepted same })

-- ---- what the code says of a protocol

-- the protocol of an option whose length is its kind's stands two bytes before its end, which is where its length counts to from the option's start
module _ (g : Settings) (s : List ℕ) (n : ℕ) where
  abbrev Told : Row → Type 0
  Told w = judge_length w.len n ≡ pass → carried g (has_protocol w.kind) w.code (get_or s n 0) n ≡ protocol_verdict g w.kind (take n (drop 3 s))

  beside : (family : Family) (role : Role) → Told (row (lay_type family role) (address family role) (exactly (lay_length family)))
  unfolding judge_length judge_protocol
  beside family role fits =
      let long : n ≡ lay_length family = eqb-true n (lay_length family) ((refuse_pass _ (eqb n (lay_length family))).0 fits) in
      let place : n ≡ 5 + width family = long ∙ length_of family in
      let there : protocol family (take n (drop 3 s)) ≡ get_or s n 0 =
      get_or-take n (drop 3 s) (2 + width family) 0 (omega arith) ∙ get_or-drop 3 s (2 + width family) 0 ∙ ap (λ (i : ℕ). get_or s i 0) (sym (place ∙ omega arith)) in
      rw (there, ← place, taken_carried family role (get_or s n 0)) refl
    where
      length_of : (f : Family) → lay_length f ≡ 5 + width f
      length_of ipv4 = refl
      length_of ipv6 = refl

  pub protocol_there : (type : ℕ) → Told (row_of type)
  protocol_there type =
      type-cases type
      (λ t. by_row t row_configuration (λ fits. none 0x01))
      (λ t. by_row t row_load_balancing (λ fits. none 0x02))
      (λ family role t. by_row t (row_address family role) (beside family role))
      (λ u. subst Told (sym (row_unknown type u)) (λ fits. none type))
    where
      none : (code : ℕ) → carried g false code (get_or s n 0) n ≡ pass
      none code = when_pass _ _ _ refl

      by_row : {code : ℕ} {w : Row} → type ≡ code → row_of code ≡ w → Told w → Told (row_of type)
      by_row t is told = subst Told (sym (ap row_of t ∙ is)) told

-- ---- one option, test by test, whatever judges what it holds

pub frame_refused : (content : Kind → List ℕ → Verdict) (s : List ℕ) (r : Refusal) → frame s ≡ refused r → one_option content s ≡ refused r
unfolding one_option ◌>>=◌
frame_refused content s r e = rw e

module _ (content : Kind → List ℕ → Verdict) (s : List ℕ) (n : ℕ) (t : Framed s n) where
  kind_decides : one_option content s ≡ ((judge_length (row_of (get_or s 2 0)).len n >> content (kind_of (get_or s 2 0)) (take n (drop 3 s))) >> accepted (front s n))
  unfolding one_option judge_kind ◌>>=◌
  kind_decides = rw (t.reads, front_length s n t.within)

  pub length_refused : (r : Refusal) → judge_length (row_of (get_or s 2 0)).len n ≡ refused r → one_option content s ≡ refused r
  unfolding ◌>>◌
  length_refused r e = kind_decides ∙ rw e

  module _ (fits : judge_length (row_of (get_or s 2 0)).len n ≡ pass) where
    pub content_refused : (r : Refusal) → content (kind_of (get_or s 2 0)) (take n (drop 3 s)) ≡ refused r → one_option content s ≡ refused r
    unfolding ◌>>◌
    content_refused r e = kind_decides ∙ rw (fits, e)

    pub content_passed : content (kind_of (get_or s 2 0)) (take n (drop 3 s)) ≡ pass → one_option content s ≡ accepted (front s n)
    unfolding ◌>>◌
    content_passed e = kind_decides ∙ rw (fits, e)

-- what is told of the option that stands in front
pub front_head : (s : List ℕ) (n : ℕ) → Framed s n → (d : Bool) → d ≡ has (get_or s 3 0) 0x80 → head_of (front s n) ≡ record { code = get_or s 2 0; discardable = d; size = 3 + n }
front_head s n t d bit =
    let b : get_or (take n (drop 3 s)) 0 0 ≡ get_or s 3 0 = get_or-take n (drop 3 s) 0 0 t.some ∙ get_or-drop 3 s 0 0 in
    rw (b, bit, front_length s n t.within)

-- ---- one option without its string, test by test, by what the code has of each

module _ (g : Settings) (s : List ℕ) where
  -- what is told of it
  abbrev first_half : Answer OptionHead
  first_half = given head_of (one_option (protocol_verdict g) s)

  pub frame_first : {r : Refusal} → refused r ≡ given body_length (frame s) → refused r ≡ first_half
  unfolding given
  frame_first {r} told = rw (frame_refused (protocol_verdict g) s r (given_refused body_length (frame s) r (sym told)))

  module _ {n : ℕ} (frames : accepted n ≡ given body_length (frame s)) {row : KindRow} (is : row ≡ encoded (row_of (get_or s 2 0))) where
    t : Framed s n
    t = framed s n (sym frames)

    -- what the row asks
    length_asked : judge_length (row_of (get_or s 2 0)).len n ≡ judge_length (length_said row.exact_len) n
    length_asked = ap (λ (l : Length). judge_length l n) (sym (ap (λ (w : KindRow). length_said w.exact_len) is ∙ length_back _))

    pub length_first : {r : Refusal} → refused r ≡ judge_length (length_said row.exact_len) n → refused r ≡ first_half
    unfolding given
    length_first {r} told = rw (length_refused (protocol_verdict g) s n t r (length_asked ∙ sym told))

    module _ (fits : pass ≡ judge_length (length_said row.exact_len) n) where
      protocol_told : protocol_verdict g (kind_of (get_or s 2 0)) (take n (drop 3 s)) ≡ carried g row.has_protocol row.code (get_or s n 0) n
      protocol_told =
          sym (protocol_there g s n (get_or s 2 0) (length_asked ∙ sym fits)) ∙ sym (ap (λ (w : KindRow). carried g w.has_protocol w.code (get_or s n 0) n) is)

      pub protocol_refused : {r : Refusal} → refused r ≡ carried g row.has_protocol row.code (get_or s n 0) n → refused r ≡ first_half
      unfolding given
      protocol_refused {r} told = rw (content_refused (protocol_verdict g) s n t (length_asked ∙ sym fits) r (protocol_told ∙ sym told))

      pub head_told : pass ≡ carried g row.has_protocol row.code (get_or s n 0) n → {d : Bool} → d ≡ has (get_or s 3 0) 0x80
          → accepted (record { code = get_or s 2 0; discardable = d; size = 3 + n }) ≡ first_half
      unfolding given
      head_told told bit =
          rw (content_passed (protocol_verdict g) s n t (length_asked ∙ sym fits) (protocol_told ∙ sym told)) (ap accepted (sym (front_head s n t _ bit)))

-- ---- what an answer says, whatever judged what it holds

-- the option whose head was told
pub record Found (content : Kind → List ℕ → Verdict) (s : List ℕ) (h : OptionHead) : Type 0 where
  pub some : 4 ≤ h.size
  pub within : h.size ≤ length s
  pub type : h.code ≡ get_or s 2 0
  pub fits : judge_length (row_of h.code).len (h.size - 3) ≡ pass
  pub reads : one_option content s ≡ accepted (front s (h.size - 3))
  pub head : head_of (front s (h.size - 3)) ≡ h

module _ (content : Kind → List ℕ → Verdict) (s : List ℕ) where
  pub found_head : (h : OptionHead) → given head_of (one_option content s) ≡ accepted h → Found content s h
  unfolding judge_kind
  found_head h e =
      let (f, reads, told) = given_accepted head_of (one_option content s) h e in
      let (sound, w) = option_says content s f reads in
      let fits = (then_accepted (judge_length (row_of f.type).len (length f.body)) (content (kind_of f.type) f.body) tt sound.judged).0 in
      let type : f.type ≡ h.code = ap (λ (x : OptionHead). x.code) told in
      let long : 3 + length f.body ≡ h.size = ap (λ (x : OptionHead). x.size) told in
      let len : length f.body ≡ h.size - 3 = omega arith in
      let same : f ≡ front s (h.size - 3) = rw (← len, w.type_at, w.body_at) in
      record {
        some = omega (arith, w.some_body);
        within = omega (arith, w.within);
        type = sym type ∙ sym w.type_at;
        fits = rw (← type, ← len) fits;
        reads = reads ∙ ap accepted same;
        head = sym (ap head_of same) ∙ told;
      }

  pub not_found : (a : Result OptionHead code.Refusal) → option_said a ≡ given head_of (one_option content s) → (q : code.Refusal) → a ≡ Err q
      → one_option content s ≡ refused (said q)
  not_found a told q e = given_refused head_of (one_option content s) (said q) (sym told ∙ ap option_said e)

-- ---- the string, scanned after all else

then_pass : (v : Verdict) → (v >> pass) ≡ v
unfolding ◌>>◌
then_pass v = grind arith

-- what a kind holds, in two halves
pub halves : (g : Settings) (k : Kind) (body : List ℕ) → Halves g k body
unfolding judge_content judge_protocol ◌>>◌ further
halves g k body = record { both = grind (arith, then_pass); first = λ off. grind (arith, when_pass) }

in_turn : (v w string : Verdict) (f : Frame) (scanned : Frame → Verdict) → scanned f ≡ string
    → ((v >> (w >> string)) >> accepted f) ≡ (((v >> w) >> accepted f) >>= λ g. scanned g >> accepted g)
unfolding ◌>>◌ ◌>>=◌
in_turn v w string f scanned e = grind arith

-- the reading of one option is the reading without its string, and then its string
string_last : (g : Settings) (s : List ℕ)
    → read_option g s ≡ (one_option (protocol_verdict g) s >>= λ f. further 4 (string_verdict (kind_of f.type) f.body) >> accepted f)
unfolding one_option judge_kind ◌>>=◌
string_last g s = go (frame s)
  where
    string : Frame → Verdict
    string f = further 4 (string_verdict (kind_of f.type) f.body)

    go : (a : Answer Frame) → (a >>= λ f. judge_kind (judge_content g) f.type f.body >> accepted f)
        ≡ ((a >>= λ f. judge_kind (protocol_verdict g) f.type f.body >> accepted f) >>= λ f. string f >> accepted f)
    go (accepted f) =
        let asked = judge_length (row_of f.type).len (length f.body) in
        rw (halves g (kind_of f.type) f.body).both (in_turn asked (protocol_verdict g (kind_of f.type) f.body) (string f) f string refl)
    go (refused r) = refl

-- an option refused before its string is refused
pub refused_before : (g : Settings) (s : List ℕ) (r : Refusal) → one_option (protocol_verdict g) s ≡ refused r → read_option g s ≡ refused r
unfolding ◌>>=◌
refused_before g s r e = string_last g s ∙ rw e refl

-- one that was read is as its string is, by what the code says of that
module _ (g : Settings) (s : List ℕ) (h : OptionHead) (t : Found (protocol_verdict g) s h) (v : Result Unit code.Refusal)
    (told : verdict_said v ≡ string_verdict (kind_of h.code) (behind_type s h.size)) where
  string_decides : read_option g s ≡ (further 4 (verdict_said v) >> accepted (front s (h.size - 3)))
  unfolding ◌>>=◌
  string_decides = string_last g s ∙ rw (t.reads, told, le-ltb (length s) h.size t.within, t.type) refl

  pub string_refused : (q : code.Refusal) → v ≡ Err q → read_option g s ≡ refused (moved 4 (said q))
  unfolding ◌>>◌ further
  string_refused q e = string_decides ∙ rw e

  pub string_passed : v ≡ Ok tt → Found (judge_content g) s h
  unfolding ◌>>◌ further
  string_passed e = record { some = t.some; within = t.within; type = t.type; fits = t.fits; reads = string_decides ∙ rw e; head = t.head }

-- the place that it is refused at is one that a `usize` holds, as all its bytes are
pub moved_in_option : (g : Settings) (s : List ℕ) (n : ℕ) (r : Refusal) → read_option g s ≡ refused (moved n r) → length s ≤ most → moved_capped n r ≡ moved n r
moved_in_option g s n r e few = let (p, there, low) = option_told g s (moved n r) e in uncapped n r p there (omega arith)

-- ---- what `read_option` tells, by what it is told of the first half and of the string

module _ (g : Settings) (s : List ℕ) where
  pub first_refused : {r : Refusal} → refused r ≡ first_half g s → refused r ≡ given head_of (read_option g s)
  unfolding given
  first_refused {r} told = rw (refused_before g s r (given_refused head_of (one_option (protocol_verdict g) s) r (sym told)))

  module _ {h : OptionHead} (first : accepted h ≡ first_half g s) (few : length s ≤ most) where
    pub string_moved : (v : Result Unit code.Refusal) (q : code.Refusal) → verdict_said v ≡ string_verdict (kind_of h.code) (behind_type s h.size)
        → MatchResult v (λ u. ◌≡◌ {A = Result Unit code.Refusal} (Err q) (Ok u)) (λ e. said q ≡ moved_capped 4 (said e)) → refused (said q) ≡ given head_of (read_option g s)
    unfolding given
    string_moved (Ok u) q told other = cc
    string_moved (Err e) q told is =
        let stops = string_refused g s h (found_head (protocol_verdict g) s h (sym first)) (Err e) told e refl in
        rw (is, moved_in_option g s 4 (said e) stops few, stops)

    pub string_clean : (v : Result Unit code.Refusal) → verdict_said v ≡ string_verdict (kind_of h.code) (behind_type s h.size)
        → MatchResult v (λ u. ◌≡◌ {A = Result Unit code.Refusal} (Ok tt) (Ok u)) (λ e. ⊥) → accepted h ≡ given head_of (read_option g s)
    unfolding given
    string_clean (Ok u) told same =
        let t = string_passed g s h (found_head (protocol_verdict g) s h (sym first)) (Ok u) told refl in
        rw (t.reads, t.head)
    string_clean (Err e) told none = absurd none

  -- the bytes that it takes
  pub size_some : (h : OptionHead) → accepted h ≡ given head_of (read_option g s) → 4 ≤ h.size
  size_some h told = (found_head (judge_content g) s h (sym told)).some

  pub size_within : (h : OptionHead) → accepted h ≡ given head_of (read_option g s) → h.size ≤ length s
  size_within h told = (found_head (judge_content g) s h (sym told)).within

  -- and the bytes after the type
  pub body_there : {h : OptionHead} → accepted h ≡ given head_of (read_option g s) → take (h.size - 3) (drop 3 s) ≡ part (given body_of (read_option g s))
  unfolding given
  body_there {h} told = rw (found_head (judge_content g) s h (sym told)).reads

  pub body_none : {r : Refusal} → refused r ≡ given head_of (read_option g s) → [] ≡ part (given body_of (read_option g s))
  unfolding given
  body_none {r} told = rw (given_refused head_of (read_option g s) r (sym told))

-- without its string and with no setting on it is what lookup reads
pub lookup_reads : (g : Settings) (s : List ℕ) → g.strict ≡ false → one_option (protocol_verdict g) s ≡ one_option unscanned s
unfolding one_option judge_kind ◌>>=◌
lookup_reads g s off = go (frame s)
  where
    go : (a : Answer Frame) → (a >>= λ f. judge_kind (protocol_verdict g) f.type f.body >> accepted f)
        ≡ (a >>= λ f. judge_kind unscanned f.type f.body >> accepted f)
    go (accepted f) = rw ((halves g (kind_of f.type) f.body).first off)
    go (refused r) = refl
