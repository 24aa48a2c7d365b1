-- The readings follow the rules: line by line, as both are written. Assumes nothing.
use mathlib.Core.Path.{◌≡◌, refl, sym, ap, ◌∙◌, subst}
use mathlib.Core.Bool.{Bool, true, false, not, ◌||◌, true≢false, false≢true}
use mathlib.Core.Logic.{◌↔◌, ◌≢◌, ◌⊎◌, inl, inr, ⊎_elim}
use mathlib.Core.List.{List, [], ◌∷◌}
use Prim.Native.Nat.{ℕ, ◌+◌, ◌/◌, ◌%◌, ◌≤◌, ◌<◌}
use native.Mathlib.Omega.{arith}
use lib.ListN.{length, take, drop, get_or, length-drop}
use lib.Seq.{length-take-le, get_or-take, get_or-drop}
use borrow.Author.Tests.{eqb-false, ne_eqb, not-true}
use Rattle.numbers.specs.Refusals.{Refusal, refusal, ◌at_byte◌, wrong_protocol}
use Rattle.numbers.specs.Answers.{Answer, accepted, refused, Verdict, pass, ◌>>◌, refuse◌when◌else◌, further, verdict}
use Rattle.numbers.specs.Bytes.{at16, at32}
use Rattle.numbers.specs.Rules.{Rules, accept, ◌if◌else◌, part◌else◌, ◌then◌, Accepts, Follows}
use Rattle.numbers.proofs.AnswerLaws.{not_refused, accepted_inj, when_accepted, further_refused}
use Rattle.numbers.proofs.TestLaws.{below, at_most, equal, unequal, lacks}
use Rattle.numbers.proofs.RuleLaws.{follows_accepted, follows_refused, follows_passed, follows_if, follows_bind, follows_after, follows_then, follows_part, given_refuses}
use Rattle.sd_format.specs.Settings.{Settings}
use Rattle.sd_format.specs.Options.{Family, ipv4, ipv6, Role, endpoint, multicast, sd_endpoint, has, width, protocol}
use Rattle.sd_format.specs.Strings.{read_string}
use Rattle.sd_format.specs.Sequences.{next_at, each_from, Stops, FirstRefused}
use Rattle.sd_format.specs.Kinds.{Kind, Row, Length, exactly, one_or_more, kinds, row_in, row_of, kind_of, judge_length, scanned, judge_protocol, judge_content, unscanned, judge_kind}
use Rattle.sd_format.specs.Frames.{Frame, size, frame, one_option, read_option, placed_option, permitted, permit, all_options, read_options, slots, lent, read_index, misfit, look_up, Run, next_of_run}
use Rattle.sd_format.specs.Entries.{Entry, head_of, head, by_type, sixteen, read_entry, judge_run, judge_runs, placed_entry, read_entries}
use Rattle.sd_format.specs.Layout.{lay_type, lay_length, address_length, Unknown, ProtocolFits, RunFits}
use Rattle.sd_format.specs.Payload.{sizes, entries_length, options_length, entries_part, options_part, read_payload, header, read_message}
use Rattle.sd_format.specs.Rules.{Fixed, load_balancing, ipv4_endpoint, ipv4_multicast, ipv4_sd_endpoint, ipv6_endpoint, ipv6_multicast, ipv6_sd_endpoint, OtherLength, Scanned, WrongContent, Unscanned, option_rules, permit_rules, options_rules, index_rules, EntryType, entry_rules, placed_rules, size_rules, payload_rules, header_rules, message_rules, lent_rules, look_up_rules, cursor_rules, run_rules}
use Rattle.sd_format.specs.Theorems.{RulesFollowed}
use Rattle.sd_format.proofs.SequenceLaws.{all_stops, each_refused}
use Rattle.sd_format.proofs.KindLaws.{row_configuration, row_load_balancing, row_address, row_unknown, type-cases, carries}
use Rattle.sd_format.proofs.StringRules.{string_refused}
use Rattle.sd_format.proofs.FrameLaws.{frame_is}
use Rattle.sd_format.proofs.FieldLaws.{exact_length, widths, lengths}
use Rattle.sd_format.proofs.OptionLaws.{placed_within, read_parts}
use Rattle.sd_format.proofs.EntryLaws.{run_inside, entry_cases, entry_long}

-- ---- one option

-- a fixed kind's row
fixed_row : {type len : ℕ} → Fixed type len → (row_of type).len ≡ exactly len
unfolding row_of row_in kinds
fixed_row load_balancing = refl
fixed_row ipv4_endpoint = refl
fixed_row ipv4_multicast = refl
fixed_row ipv4_sd_endpoint = refl
fixed_row ipv6_endpoint = refl
fixed_row ipv6_multicast = refl
fixed_row ipv6_sd_endpoint = refl

pub fixed_address : (family : Family) (role : Role) → Fixed (lay_type family role) (lay_length family)
fixed_address ipv4 endpoint = ipv4_endpoint
fixed_address ipv4 multicast = ipv4_multicast
fixed_address ipv4 sd_endpoint = ipv4_sd_endpoint
fixed_address ipv6 endpoint = ipv6_endpoint
fixed_address ipv6 multicast = ipv6_multicast
fixed_address ipv6 sd_endpoint = ipv6_sd_endpoint

exact_follows : (n had : ℕ) → Follows (judge_length (exactly n) had) (refusal 7 (n ∷ had ∷ 1 ∷ []) at_byte 0 if had ≢ n else accept)
unfolding judge_length
exact_follows n had = follows_if _ _ (unequal had n) (follows_accepted tt)

-- a type's length is its own, or free
length_of : (type : ℕ) → ((row_of type).len ≡ one_or_more) ⊎ ((n : ℕ) × Fixed type n)
length_of type =
    type-cases type
    (λ t. inl (rw t (ap (λ (q : Row). q.len) row_configuration)))
    (λ t. inr (5, rw t load_balancing))
    (λ family role t. inr (lay_length family, rw t (fixed_address family role)))
    (λ u. inl (ap (λ (q : Row). q.len) (row_unknown type u)))

length_refused : (type had : ℕ) (r : Refusal) → (judge_length (row_of type).len had ≡ refused r) ↔ OtherLength type had r
unfolding judge_length
length_refused type had r = (
  (λ e. ⊎_elim
      (λ free. not_refused r tt (sym e ∙ ap (λ (l : Length). judge_length l had) free))
      (λ f. ⊎_elim
      (λ w. record { needed = f.0; fixed = f.1; other = w.0; says = w.1 })
      (λ w. absurd w.1)
      (((exact_follows f.0 had).refuses r).0 (sym (ap (λ (l : Length). judge_length l had) (fixed_row f.1)) ∙ e)))
      (length_of type)),
  (λ w. ap (λ (l : Length). judge_length l had) (fixed_row w.fixed) ∙ ((exact_follows w.needed had).refuses r).1 (inl (w.other, w.says))),
)

abbrev frame_rules : List ℕ → Rules
frame_rules s =
    refusal 7 (3 ∷ length s ∷ 0 ∷ []) at_byte 0 if length s < 3 else
    refusal 8 [] at_byte 0 if at16 s 0 ≡ 0 else
    refusal 7 ((3 + at16 s 0) ∷ length s ∷ 0 ∷ []) at_byte 0 if length s < 3 + at16 s 0 else
    accept

frame_follows : (s : List ℕ) → Follows (frame s) (frame_rules s)
unfolding frame
frame_follows s =
    follows_if _ _ (below (length s) 3)
    (follows_if _ _ (equal (at16 s 0) 0)
    (follows_if _ _ (below (length s) (3 + at16 s 0))
    (follows_accepted _)))

-- `says` is what is refused of a kind whose length was judged
module _ (content : Kind → List ℕ → Verdict) (Content : List ℕ → Refusal → Type 0)
    (says : (s : List ℕ) (n : ℕ) → 3 + n ≤ length s → at16 s 0 ≡ n → judge_length (row_of (get_or s 2 0)).len n ≡ pass → (r : Refusal)
    → (content (kind_of (get_or s 2 0)) (take n (drop 3 s)) ≡ refused r) ↔ Content s r) where
  -- behind the frame: its kind's length, then what it holds
  abbrev kind_rules : (s : List ℕ) (n : ℕ) → Rules
  kind_rules s n = part (OtherLength (get_or s 2 0) n) else part (Content s) else accept

  kind_follows : (s : List ℕ) (n : ℕ) → 3 + n ≤ length s → at16 s 0 ≡ n → (f : Frame)
      → Follows (judge_kind content (get_or s 2 0) (take n (drop 3 s)) >> accepted f) (kind_rules s n)
  unfolding judge_kind
  kind_follows s n long is f =
      let full : length (take n (drop 3 s)) ≡ n = length-take-le n (drop 3 s) (rw length-drop (omega arith)) in
      rw full
      (follows_then _ (accepted f) (kind_rules s n) accept
      (follows_after _ _ (part (OtherLength (get_or s 2 0) n) else accept) (part (Content s) else accept)
      (follows_part _ _ (length_refused (get_or s 2 0) n))
      (λ fits. follows_part _ _ (says s n long is fits)))
      (follows_accepted f))

  option_follows : (s : List ℕ) → Follows (one_option content s) (option_rules Content s)
  unfolding one_option
  option_follows s =
      follows_bind (frame s) _ (frame_rules s) (kind_rules s (at16 s 0)) (frame_follows s)
      (λ f e. let (pos, long, same) = frame_is s f e in rw (← same) (kind_follows s (at16 s 0) long refl (record { type = get_or s 2 0; body = take (at16 s 0) (drop 3 s) })))

-- a string is refused in its option as it is alone, its place counted from the option
scanned_refused : (t : List ℕ) (r : Refusal) → (scanned t ≡ refused r) ↔ Scanned t r
unfolding further
scanned_refused t r = (
  (λ e. let (q, refuses, there) = further_refused 4 _ r e in (q, (string_refused t q).0 ((given_refuses _ (read_string t) q).0 refuses), there)),
  (λ (q, stops, there). let refuses : verdict (read_string t) ≡ refused q = (given_refuses _ (read_string t) q).1 ((string_refused t q).1 stops) in rw refuses (ap refused there)),
)

-- a protocol is refused where the setting is on and it does not fit
protocol_refused : (strict : Bool) (family : Family) (role : Role) (body : List ℕ) (r : Refusal) → (judge_protocol strict family role body ≡ refused r)
    ↔ ((strict ≡ true) × (¬ ProtocolFits role (protocol family body)) × (wrong_protocol (protocol family body) (5 + width family) ≡ r))
unfolding judge_protocol refuse◌when◌else◌
protocol_refused true family role body r =
    let w = (follows_if _ _ (lacks _ (carries role (protocol family body))) (follows_accepted tt)).refuses r in
    ((λ e. ⊎_elim (λ h. (refl, h.0, h.1)) (λ none. absurd none.1) (w.0 e)), (λ h. w.1 (inl (h.1, h.2))))
protocol_refused false family role body r = ((λ e. not_refused r tt (sym e)), (λ h. absurd (false≢true h.0)))

-- where the protocol stands in an option of its kind's length
protocol_at : (family : Family) (s : List ℕ) (n : ℕ) → n ≡ lay_length family → protocol family (take n (drop 3 s)) ≡ get_or s (5 + address_length family) 0
protocol_at family s n len =
    let wide : n ≡ 5 + width family = len ∙ lengths family in
    let there : 3 + (2 + width family) ≡ 5 + address_length family = omega (arith, widths family) in
    get_or-take n (drop 3 s) (2 + width family) 0 (omega arith) ∙ get_or-drop 3 s (2 + width family) 0 ∙ ap (λ (i : ℕ). get_or s i 0) there

-- how what a type holds is judged, by its row
judged_by : (g : Settings) (body : List ℕ) (type : ℕ) (row : Row) → row_of type ≡ row → judge_content g (kind_of type) body ≡ judge_content g row.kind body
judged_by g body type row e = ap (λ (q : Row). judge_content g q.kind body) e

module _ (g : Settings) (s : List ℕ) (n : ℕ) (is : at16 s 0 ≡ n) (fits : judge_length (row_of (get_or s 2 0)).len n ≡ pass) (long : 3 + n ≤ length s) where
  abbrev type : ℕ
  type = get_or s 2 0

  abbrev body : List ℕ
  body = take n (drop 3 s)

  body_length : length body ≡ n
  body_length = length-take-le n (drop 3 s) (rw length-drop (omega arith))

  configured : type ≡ 0x01 → judge_content g (kind_of type) body ≡ scanned (drop 1 body)
  unfolding judge_content
  configured t = judged_by g body type _ (ap row_of t ∙ row_configuration)

  addressed : (family : Family) (role : Role) → type ≡ lay_type family role → judge_content g (kind_of type) body ≡ judge_protocol g.strict family role body
  unfolding judge_content
  addressed family role t = judged_by g body type _ (ap row_of t ∙ row_address family role)

  carried : (family : Family) (role : Role) → type ≡ lay_type family role → protocol family body ≡ get_or s (5 + address_length family) 0
  carried family role t =
      let row : (row_of type).len ≡ exactly (lay_length family) = rw t (ap (λ (q : Row). q.len) (row_address family role)) in
      let exact : judge_length (exactly (lay_length family)) (length body) ≡ pass = rw body_length (sym (ap (λ (l : Length). judge_length l n) row) ∙ fits) in
      protocol_at family s n (sym body_length ∙ (exact_length _ body).0 exact)

  wrong : (family : Family) (role : Role) → type ≡ lay_type family role → (r : Refusal)
      → (judge_protocol g.strict family role body ≡ refused r)
      ↔ ((g.strict ≡ true) × (¬ ProtocolFits role (get_or s (5 + address_length family) 0)) × ((refusal 23 (get_or s (5 + address_length family) 0 ∷ []) at_byte 5 + address_length family) ≡ r))
  wrong family role t r = rw (← (carried family role t), widths family) (protocol_refused g.strict family role body r)

  read_option_says : (r : Refusal) → (judge_content g (kind_of type) body ≡ refused r) ↔ WrongContent g s r
  unfolding judge_content
  read_option_says r = (
    (λ e. type-cases type
        (λ t. inl (t, rw is ((scanned_refused _ r).0 (sym (configured t) ∙ e))))
        (λ t. not_refused r tt (sym e ∙ judged_by g body type _ (ap row_of t ∙ row_load_balancing)))
        (λ family role t.
        let (on, misfit, says) = (wrong family role t r).0 (sym (addressed family role t) ∙ e) in
        inr (record { strict = on; family = family; role = role; type = t; misfit = misfit; says = says }))
        (λ u. not_refused r tt (sym e ∙ judged_by g body type _ (row_unknown type u)))),
    ⊎_elim
        (λ (t, w). configured t ∙ (scanned_refused _ r).1 (rw is at w))
        (λ w. addressed w.family w.role w.type ∙ (wrong w.family w.role w.type r).1 (w.strict, w.misfit, w.says)),
  )

pub read_option_follows : (g : Settings) (s : List ℕ) → Follows (read_option g s) (option_rules (WrongContent g) s)
read_option_follows g s = option_follows (judge_content g) (WrongContent g) (λ t n long is fits. read_option_says g t n is fits long) s

pub unscanned_follows : (s : List ℕ) → Follows (one_option unscanned s) (option_rules Unscanned s)
unscanned_follows s = option_follows unscanned Unscanned (λ t n long is fits r. ((λ e. not_refused r tt (sym e)), (λ none. absurd none))) s

-- ---- all options

-- a known kind is permitted
kind_permitted : (type : ℕ) → Unknown type ⊎ ((g : Settings) (body : List ℕ) → permitted g (kind_of type) body ≡ true)
unfolding permitted
kind_permitted type =
    type-cases type
    (λ t. inr (λ g body. rw t (ap (λ (q : Row). permitted g q.kind body) row_configuration)))
    (λ t. inr (λ g body. rw t (ap (λ (q : Row). permitted g q.kind body) row_load_balancing)))
    (λ family role t. inr (λ g body. rw t (ap (λ (q : Row). permitted g q.kind body) (row_address family role))))
    (λ u. inl u)

-- neither the bit nor the setting
lacking : (b : ℕ) (d : Bool) → (not (d || has b 0x80) ≡ true) ↔ ((b / 0x80 % 2 ≡ 0) × (d ≡ false))
lacking b true = ((λ e. absurd (false≢true e)), (λ w. absurd (true≢false w.1)))
lacking b false = (
  (λ e. (omega (arith, eqb-false (b / 0x80 % 2) 1 (not-true _ e)), refl)),
  (λ w. ap not (ne_eqb (b / 0x80 % 2) 1 (λ h. omega (arith, w.0)))),
)

unpermitted : (g : Settings) (type : ℕ) (body : List ℕ)
    → (not (permitted g (kind_of type) body) ≡ true) ↔ (Unknown type × (get_or body 0 0 / 0x80 % 2 ≡ 0) × (g.discard ≡ false))
unfolding permitted
unpermitted g type body = (
  (λ e. ⊎_elim
      (λ u. let w = (lacking (get_or body 0 0) g.discard).0 (sym (ap not (row_is u)) ∙ e) in (u, w.0, w.1))
      (λ free. absurd (false≢true (sym (ap not (free g body)) ∙ e)))
      (kind_permitted type)),
  (λ w. ap not (row_is w.0) ∙ (lacking (get_or body 0 0) g.discard).1 (w.1, w.2)),
)
  where
    row_is : Unknown type → permitted g (kind_of type) body ≡ (g.discard || has (get_or body 0 0) 0x80)
    row_is u = ap (λ (q : Row). permitted g q.kind body) (row_unknown type u)

pub permit_follows : (g : Settings) (f : Frame) → Follows (permit g f) (permit_rules g f)
unfolding permit
permit_follows g f = follows_if _ _ (unpermitted g f.type f.body) (follows_accepted tt)

pub stops_at : (g : Settings) (s : List ℕ) (r : Refusal) → (all_options g s ≡ refused r) ↔ Stops (placed_option g (length s)) size s r
unfolding all_options
stops_at g s r = all_stops (placed_option g (length s)) size 4 (omega arith) (placed_within g (length s)) s r

pub options_follow : (g : Settings) (s : List ℕ) → Follows (read_options g s) (options_rules g s)
unfolding read_options
options_follow g s =
    follows_bind (all_options g s) _ (part (Stops (placed_option g (length s)) size s) else accept)
    (part (λ r. (fs : List Frame) × (all_options g s ≡ accepted fs) × FirstRefused size (permit g) 0 fs r) else accept)
    (follows_part _ _ (stops_at g s))
    (λ fs e.
    follows_then (each_from size (permit g) 0 fs) (accepted fs) (part (λ r. (fs : List Frame) × (all_options g s ≡ accepted fs) × FirstRefused size (permit g) 0 fs r) else accept) accept
    (follows_part _ _ (λ r. (
      (λ h. (fs, e, (each_refused size (permit g) 0 fs r).0 h)),
      (λ w. (each_refused size (permit g) 0 fs r).1 (subst (λ (l : List Frame). FirstRefused size (permit g) 0 l r) (accepted_inj w.0 fs (sym w.1 ∙ e)) w.2)),
    )))
    (follows_accepted fs))

pub index_follows : (g : Settings) (s : List ℕ) → Follows (read_index g s) (index_rules g s)
unfolding read_index
index_follows g s = follows_if _ _ (below 1388 (length s)) (follows_part _ _ (stops_at g s))

-- ---- one entry

type_follows : (type : ℕ) (s : List ℕ) → Follows (by_type type s) (refusal 11 (type ∷ []) if ¬ EntryType type else accept)
type_follows type s =
    entry_cases type s (λ a. Follows a (refusal 11 (type ∷ []) if ¬ EntryType type else accept))
    (λ e. typed _ (inl e))
    (λ e. typed _ (inr (inl e)))
    (λ e. typed _ (inr (inr (inl e))))
    (λ e. typed _ (inr (inr (inr e))))
    (λ n. follows_refused _ accept (¬ EntryType type) n)
  where
    typed : (e : Entry) → EntryType type → Follows (accepted e) (refusal 11 (type ∷ []) if ¬ EntryType type else accept)
    typed e known = follows_passed _ (¬ EntryType type) (accepted e) accept (λ n. n known) (follows_accepted e)

pub entry_follows : (s : List ℕ) → Follows (read_entry s) (entry_rules s)
unfolding read_entry
entry_follows s = follows_if _ _ (below (length s) 16) (type_follows (get_or s 0 0) s)

-- the head of an entry that was read
headed : (type : ℕ) (s : List ℕ) (e : Entry) → by_type type s ≡ accepted e → head_of e ≡ head s
headed type s e =
    entry_cases type s (λ a. a ≡ accepted e → head_of e ≡ head s)
    (λ _ p. same _ p)
    (λ _ p. same _ p)
    (λ _ p. same _ p)
    (λ _ p. same _ p)
    (λ n p. not_refused _ e p)
  where
    same : (x : Entry) → accepted x ≡ accepted e → head_of e ≡ head_of x
    same x p = ap head_of (sym (accepted_inj x e p))

read_headed : (s : List ℕ) (e : Entry) → read_entry s ≡ accepted e → head_of e ≡ head s
unfolding read_entry
read_headed s e h = headed (get_or s 0 0) s e (when_accepted _ _ _ e h).1

abbrev run_rule : (run n start count : ℕ) → Rules
run_rule run n start count = refusal 12 (run ∷ start ∷ count ∷ n ∷ []) if ¬ RunFits n start count else accept

run_follows : (run n start count : ℕ) → Follows (judge_run run n start count) (run_rule run n start count)
unfolding judge_run
run_follows run n start count = follows_if _ _ (lacks _ (run_inside n start count)) (follows_accepted tt)

runs_follow : (n start1 count1 start2 count2 : ℕ) → Follows (judge_runs n start1 count1 start2 count2) (run_rule 1 n start1 count1 then run_rule 2 n start2 count2)
unfolding judge_runs
runs_follow n start1 count1 start2 count2 = follows_then _ _ _ _ (run_follows 1 n start1 count1) (run_follows 2 n start2 count2)

pub placed_follows : (n : ℕ) (s : List ℕ) → Follows (placed_entry n s) (placed_rules n s)
unfolding placed_entry head
placed_follows n s =
    follows_bind (read_entry s) _ (entry_rules s) _ (entry_follows s)
    (λ e h. rw (read_headed s e h) (follows_then _ (accepted e) _ accept (runs_follow n (head s).start1 (head s).count1 (head s).start2 (head s).count2) (follows_accepted e)))

-- ---- the payload and the message

pub sizes_follow : (n entries options : ℕ) → Follows (sizes n entries options) (size_rules n entries options)
unfolding sizes
sizes_follow n entries options =
    follows_if _ _ (below n 12)
    (follows_if _ _ (below 1388 entries)
    (follows_if _ _ (unequal (entries % 16) 0)
    (follows_if _ _ (below n (12 + entries))
    (follows_if _ _ (below 1388 options)
    (follows_if _ _ (below 1400 (12 + entries + options))
    (follows_if _ _ (below n (12 + entries + options))
    (follows_if _ _ (unequal n (12 + entries + options))
    (follows_accepted tt))))))))

pub header_follows : (s : List ℕ) → Follows (header s) (header_rules s)
unfolding header
header_follows s =
    follows_if _ _ (below (length s) 16)
    (follows_if _ _ (unequal (at32 s 0) 0xffff8100)
    (follows_if _ _ (unequal (at16 s 8) 0)
    (follows_if _ _ (equal (at16 s 10) 0)
    (follows_if _ _ (unequal (get_or s 13 0) 1)
    (follows_if _ _ (unequal (get_or s 14 0) 0x02)
    (follows_if _ _ (unequal (get_or s 15 0) 0)
    (follows_accepted tt)))))))

pub entries_stop : (n : ℕ) (s : List ℕ) (r : Refusal) → (read_entries n s ≡ refused r) ↔ Stops (placed_entry n) sixteen s r
unfolding read_entries
entries_stop n s r = all_stops (placed_entry n) sixteen 16 (omega arith) (λ t e h. (omega arith, entry_long n t e h)) s r

pub payload_follows : (g : Settings) (s : List ℕ) → Follows (read_payload g s) (payload_rules g s)
unfolding read_payload
payload_follows g s =
    follows_then _ _ (size_rules (length s) (entries_length s) (options_length s)) _ (sizes_follow _ _ _)
    (follows_bind (read_options g (options_part s)) _ (options_rules g (options_part s)) (part Entries else accept) (options_follow g (options_part s))
    (λ fs e.
    follows_bind (read_entries (length fs) (entries_part s)) _ (part Entries else accept) accept
    (follows_part Entries _ (λ r.
    let stop = entries_stop (length fs) (entries_part s) r in
    let all_read = ((read_parts g _ fs).0 e).0 in (
      (λ h. (fs, all_read, stop.0 h)),
      (λ w. stop.1 (subst (λ (l : List Frame). Stops (placed_entry (length l)) sixteen (entries_part s) r) (accepted_inj w.0 fs (sym w.1 ∙ all_read)) w.2)),
    )))
    (λ es h. follows_accepted _)))
  where
    Entries : Refusal → Type 0
    Entries r = (fs : List Frame) × (all_options g (options_part s) ≡ accepted fs) × Stops (placed_entry (length fs)) sixteen (entries_part s) r

pub message_follows : (g : Settings) (s : List ℕ) → Follows (read_message g s) (message_rules g s)
unfolding read_message
message_follows g s = follows_then (header s) (read_payload g (drop 16 s)) (header_rules s) (payload_rules g (drop 16 s)) (header_follows s) (payload_follows g (drop 16 s))

-- ---- lookup and the cursors

misfit_follows : (m : Answer Frame) (rules : Rules) → Follows m rules → Follows (misfit m) (refusal 21 [] if ¬ Accepts rules else accept)
unfolding misfit
misfit_follows (accepted f) rules w = follows_passed _ (¬ Accepts rules) (accepted f) accept (λ n. n (w.accepts.0 (f, refl))) (follows_accepted f)
misfit_follows (refused q) rules w = follows_refused _ accept (¬ Accepts rules) (λ h. not_refused q (w.accepts.1 h).0 (w.accepts.1 h).1)

pub look_up_follows : (s tab : List ℕ) (count k : ℕ) → Follows (look_up s tab count k) (look_up_rules s tab count k)
unfolding look_up slots
look_up_follows s tab count k =
    follows_if _ _ (at_most count k)
    (follows_if _ _ (at_most 347 k)
    (follows_if _ _ (at_most (length tab) k)
    (misfit_follows _ _ (unscanned_follows (drop (get_or tab k 0) s)))))

pub run_cursor_follows : (s tab : List ℕ) (count : ℕ) (c : Run) → Follows (next_of_run s tab count c) (run_rules s tab count c)
unfolding next_of_run
run_cursor_follows s tab count c = follows_if _ _ (equal c.left 0) (look_up_follows s tab count c.next)

pub cursor_follows : {A : Type 0} (read : List ℕ → Answer A) (rules : List ℕ → Rules) → ((s : List ℕ) → Follows (read s) (rules s)) → (s : List ℕ) (at : ℕ)
    → Follows (next_at read s at) (cursor_rules rules s at)
unfolding next_at
cursor_follows read rules one s at = follows_if _ _ (at_most (length s) at) (one (drop at s))

lent_follows : {A : Type 0} (tab : List ℕ) (a : Answer A) (rules : Rules) → Follows a rules → Follows (lent tab a) (lent_rules tab rules)
unfolding lent slots
lent_follows tab a rules one = follows_if _ _ (below (length tab) 347) one

pub rules_followed : RulesFollowed
rules_followed = record {
  string = λ s. follows_part _ _ (string_refused s);
  option = read_option_follows;
  unscanned_option = unscanned_follows;
  permitted = permit_follows;
  options = options_follow;
  entry = entry_follows;
  placed = placed_follows;
  payload = λ g s tab. lent_follows tab _ _ (payload_follows g s);
  message = λ g s tab. lent_follows tab _ _ (message_follows g s);
  index = λ g s tab. lent_follows tab _ _ (index_follows g s);
  looked_up = look_up_follows;
  option_cursor = λ g. cursor_follows (read_option g) (option_rules (WrongContent g)) (read_option_follows g);
  entry_cursor = cursor_follows read_entry entry_rules entry_follows;
  run_cursor = run_cursor_follows;
}
