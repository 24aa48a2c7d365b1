-- Options by their kinds' own fields against options as type and bytes: each fits exactly where the other is read, and each gives the other
-- back. Assumes nothing.
use mathlib.Core.Path.{◌≡◌, refl, sym, ap, ap₂, ◌∙◌, subst}
use mathlib.Core.Bool.{Bool, true, false, ◌||◌, or-true, false≢true}
use mathlib.Core.Logic.{◌↔◌, inl, inr, ⊎_elim}
use mathlib.Core.List.{List, [], ◌∷◌, ◌++◌}
use Prim.Native.Nat.{ℕ, suc, ◌+◌, ◌*◌, ◌/◌, ◌%◌, ◌≤◌, ◌<◌}
use native.Mathlib.Numerals.{one-add}
use native.Mathlib.Omega.{arith}
use lib.ListN.{length, take, drop, get_or, length-append, length-drop, take-append-drop}
use lib.Seq.{take_at, take_all, length-take-le, get_or-append-add, get_or-drop, drop-drop}
use lib.Dec.{eqb}
use borrow.Author.Tests.{eqb-true, eq-eqb}
use Rattle.numbers.specs.Answers.{Answer, accepted, refused, pass, ◌>>◌, refuse◌when◌else◌, further, given, verdict}
use Rattle.numbers.specs.Bytes.{Bytes, be16, at16}
use Rattle.numbers.proofs.AnswerLaws.{not_refused, then_accepted, then_pass, refuse_pass}
use Rattle.numbers.proofs.TestLaws.{or_cases}
use Rattle.numbers.proofs.ByteLaws.{be16_at, tab, take_tab}
use Rattle.sd_format.specs.Settings.{Settings}
use Rattle.sd_format.specs.Options.{Family, ipv4, ipv6, Role, First, Opt, configuring, balancing, addressed, unrecognised, has, width, protocol}
use Rattle.sd_format.specs.Strings.{read_string}
use Rattle.sd_format.specs.Kinds.{Row, configuration, load_balancing, address, unknown, exactly, row_of, kind_of, judge_length, scanned, judge_protocol, judge_content, judge_kind}
use Rattle.sd_format.specs.Frames.{Frame, permitted}
use Rattle.sd_format.specs.Fields.{first, string, address_bytes, reserved, port, items_of, fields_of, fields}
use Rattle.sd_format.specs.Layout.{lay_items, lay_first, lay_type, lay_length, address_length, lay_option, wire, Unknown, ProtocolFits, OptionFits}
use Rattle.sd_format.proofs.BitLaws.{first_again, first_back}
use Rattle.sd_format.proofs.StringLaws.{strings_exact}
use Rattle.sd_format.proofs.FrameLaws.{lay_frame, Sound}
use Rattle.sd_format.proofs.KindLaws.{row_configuration, row_load_balancing, row_address, row_unknown, type-cases, carries}

-- ---- what the judgement of a row says

judged_by : (g : Settings) (r : Row) (body : List ℕ) (type : ℕ) → row_of type ≡ r
    → judge_kind (judge_content g) type body ≡ (judge_length r.len (length body) >> judge_content g r.kind body)
unfolding judge_kind
judged_by g r body type e = ap (λ (q : Row). judge_length q.len (length body) >> judge_content g q.kind body) e

pub exact_length : (n : ℕ) (body : List ℕ) → (judge_length (exactly n) (length body) ≡ pass) ↔ (length body ≡ n)
unfolding judge_length
exact_length n body =
    let t = refuse_pass _ (eqb (length body) n) in
    ((λ e. eqb-true _ _ (t.0 e)), (λ h. t.1 (eq-eqb _ _ h)))

-- under the setting the protocol fits
pub protocol_judged : (strict : Bool) (family : Family) (role : Role) (body : List ℕ)
    → (judge_protocol strict family role body ≡ pass) ↔ (strict ≡ true → ProtocolFits role (protocol family body))
unfolding judge_protocol refuse◌when◌else◌
protocol_judged true family role body =
    let t = refuse_pass _ _ in
    let means = carries role (protocol family body) in
    ((λ e on. means.0 (t.0 e)), (λ h. t.1 (means.1 (h refl))))
protocol_judged false family role body = ((λ e on. absurd (false≢true on)), (λ h. refl))

passes : (n : ℕ) (a : Answer (List (List ℕ))) → further n (verdict a) ≡ pass → (items : List (List ℕ)) × (a ≡ accepted items)
unfolding given further
passes n (accepted items) e = (items, refl)
passes n (refused r) e = not_refused _ tt e

passing : (n : ℕ) (a : Answer (List (List ℕ))) (items : List (List ℕ)) → a ≡ accepted items → further n (verdict a) ≡ pass
unfolding given further
passing n a items e = rw e

-- ---- from the fields to the bytes

-- what is shown of an option that fits: it is sound, its layout is its frame's, its fields are its own, and it is permitted
pub record Wired (g : Settings) (o : Opt) : Type 0 where
  pub sound : Sound (judge_content g) (wire o)
  pub layout : lay_frame (wire o) ≡ lay_option o
  pub own : fields (wire o) ≡ o
  pub may : permitted g (kind_of (wire o).type) (wire o).body ≡ true

-- by the row of its type
wired_by : (g : Settings) (o : Opt) (r : Row) → row_of (wire o).type ≡ r → 1 ≤ length (wire o).body
    → (judge_length r.len (length (wire o).body) >> judge_content g r.kind (wire o).body) ≡ pass
    → lay_frame (wire o) ≡ lay_option o
    → fields_of r.kind (wire o).type (wire o).body ≡ o
    → permitted g r.kind (wire o).body ≡ true
    → Wired g o
unfolding fields
wired_by g o r e long judged layout own may =
    record {
      sound = record { some_body = long; judged = judged_by g r (wire o).body (wire o).type e ∙ judged };
      layout = layout;
      own = ap (λ (q : Row). fields_of q.kind (wire o).type (wire o).body) e ∙ own;
      may = ap (λ (q : Row). permitted g q.kind (wire o).body) e ∙ may;
    }

-- a part behind an address
getD_behind : (x : ℕ) (a t : List ℕ) (k i : ℕ) → k ≡ 1 + length a + i → get_or (x ∷ (a ++ t)) k 0 ≡ get_or t i 0
getD_behind x a t k i e =
    let s : k ≡ suc (length a + i) = omega arith in
    rw s (get_or-append-add a t i 0)

same_length : (n m : ℕ) (t : List ℕ) → n ≡ m → be16 n ++ t ≡ be16 m ++ t
same_length n m t e = ap (λ (k : ℕ). be16 k ++ t) e

-- ---- the address and what stands behind it, once over both widths

pub widths : (family : Family) → address_length family ≡ width family
widths ipv4 = refl
widths ipv6 = refl

pub lengths : (family : Family) → lay_length family ≡ 5 + width family
lengths ipv4 = refl
lengths ipv6 = refl

long_address : (family : Family) (x : ℕ) (a : List ℕ) (r p q : ℕ) → length a ≡ address_length family
    → length (x ∷ (a ++ (r ∷ p ∷ be16 q))) ≡ lay_length family
unfolding be16
long_address family x a r p q len = rw (lengths family) (simp length-append (omega (arith, widths family)))

protocol_there : (family : Family) (x : ℕ) (a : List ℕ) (r p q : ℕ) → length a ≡ address_length family → protocol family (x ∷ (a ++ (r ∷ p ∷ be16 q))) ≡ p
protocol_there family x a r p q len =
    getD_behind x a (r ∷ p ∷ be16 q) (2 + width family) 1 (omega (arith, len ∙ widths family))

own_address : (family : Family) (role : Role) (b : First) (a : List ℕ) (r p q : ℕ) → b.others < 128 → length a ≡ address_length family
    → fields_of (address family role) (lay_type family role) (lay_first b ∷ (a ++ (r ∷ p ∷ be16 q))) ≡ addressed family role b a r p q
unfolding fields_of at16 be16
own_address family role b a r p q few len =
    let w : length a ≡ width family = len ∙ widths family in
    let t : List ℕ = r ∷ p ∷ be16 q in
    let hi : get_or (lay_first b ∷ (a ++ t)) (3 + width family) 0 ≡ q / 256 = getD_behind (lay_first b) a t (3 + width family) 2 (omega arith) in
    let lo : get_or (lay_first b ∷ (a ++ t)) (3 + width family + 1) 0 ≡ q % 256 = getD_behind (lay_first b) a t (3 + width family + 1) 3 (omega arith) in
    let first_is = first_back b few in
    let address_is = take_at a t (width family) w in
    let reserved-is = getD_behind (lay_first b) a t (1 + width family) 0 (omega arith) in
    let protocol-is = protocol_there family (lay_first b) a r p q len in
    let port_is : at16 (lay_first b ∷ (a ++ t)) (3 + width family) ≡ q = omega arith in
    λ i. addressed family role (first_is i) (address_is i) (reserved-is i) (protocol-is i) (port_is i)

own_balancing : (b : First) (p w : ℕ) → b.others < 128 → fields_of load_balancing 0x02 (lay_first b ∷ (be16 p ++ be16 w)) ≡ balancing b p w
unfolding fields_of at16 be16
own_balancing b p w few =
    let first_is = first_back b few in
    let priority_is : p / 256 * 256 + p % 256 ≡ p = omega arith in
    let weight_is : w / 256 * 256 + w % 256 ≡ w = omega arith in
    λ i. balancing (first_is i) (priority_is i) (weight_is i)

pub wired : (g : Settings) (o : Opt) → OptionFits g o → Wired g o
unfolding lay_option lay_frame be16 fields_of permitted judge_length judge_content items_of ◌>>◌ refuse◌when◌else◌
wired g (configuring b items) h =
    let read : read_string (lay_items items) ≡ accepted items = ((strings_exact (lay_items items)).handed items).1 (h.1, refl) in
    wired_by g (configuring b items) _ row_configuration (omega arith) (passing _ _ items read)
    (same_length _ _ (1 ∷ lay_first b ∷ lay_items items) (sym (one-add (length (lay_items items)))))
    (ap₂ {C = Opt} (λ c is. configuring c is) (first_back b h.0) (ap items_of read))
    refl
wired g (balancing b p w) h =
    wired_by g (balancing b p w) _ row_load_balancing (omega arith) refl refl (own_balancing b p w h) refl
wired g (addressed family role b a r p q) h =
    let long = long_address family (lay_first b) a r p q h.1 in
    wired_by g (addressed family role b a r p q) _ (row_address family role) (omega arith)
    (then_pass _ _ ((exact_length (lay_length family) (lay_first b ∷ (a ++ (r ∷ p ∷ be16 q)))).1 long)
    ∙ (protocol_judged g.strict family role _).1 (λ on. rw (protocol_there family (lay_first b) a r p q h.1) (h.2 on)))
    (same_length _ _ (lay_type family role ∷ lay_first b ∷ (a ++ (r ∷ p ∷ be16 q))) long)
    (own_address family role b a r p q h.0 h.1)
    refl
wired g (unrecognised type b rest) h =
    wired_by g (unrecognised type b rest) _ (row_unknown type h.1) (omega arith) refl
    (same_length _ _ (type ∷ lay_first b ∷ rest) (sym (one-add (length rest))))
    (ap (λ (c : First). unrecognised type c rest) (first_back b h.0))
    (⊎_elim (λ d. ap (◌||◌ g.discard) (ap (λ (c : First). c.discardable) (first_back b h.0) ∙ d) ∙ or-true g.discard) (λ d. rw d) h.2)

-- ---- from the bytes to the fields

-- an option that fits, and whose bytes these are
abbrev Back : Settings → ℕ → List ℕ → Opt → Type 0
Back g type body o = OptionFits g o × (wire o ≡ record { type = type; body = body })

whole_body : (body : List ℕ) → Bytes body → 1 ≤ length body → lay_first (first body) ∷ drop 1 body ≡ body
whole_body [] b h = absurd (omega arith)
whole_body (x ∷ rest) b h = ap (λ (y : ℕ). y ∷ rest) (first_again x (b 0))

few_bits : (body : List ℕ) → (first body).others < 128
few_bits body = omega arith

-- what stands behind the first byte: an address of `w` bytes, and four bytes
address_again : (w : ℕ) (body : List ℕ) → Bytes body → length body ≡ 5 + w
    → take w (drop 1 body) ++ (get_or body (1 + w) 0 ∷ get_or body (2 + w) 0 ∷ be16 (at16 body (3 + w))) ≡ drop 1 body
address_again w body b h =
    let rest : List ℕ = drop (1 + w) body in
    let at : (k i : ℕ) → 1 + w + i ≡ k → get_or body k 0 ≡ get_or rest i 0 = λ k i e. sym (get_or-drop (1 + w) body i 0 ∙ ap (λ (n : ℕ). get_or body n 0) e) in
    let r : get_or body (1 + w) 0 ≡ get_or rest 0 0 = at (1 + w) 0 (omega arith) in
    let p : get_or body (2 + w) 0 ≡ get_or rest 1 0 = at (2 + w) 1 (omega arith) in
    let hi : get_or body (3 + w) 0 ≡ get_or rest 2 0 = at (3 + w) 2 (omega arith) in
    let lo : get_or body (3 + w + 1) 0 ≡ get_or rest 3 0 = at (3 + w + 1) 3 (omega arith) in
    let four : tab 4 (λ i. get_or rest i 0) ≡ rest = sym (take_tab 4 rest (rw length-drop (omega arith))) ∙ take_all 4 rest (rw length-drop (omega arith)) in
    rw (be16_at body (3 + w) b, r, p, hi, lo, four, ← (drop-drop w 1 body)) (take-append-drop w (drop 1 body))

five_again : (body : List ℕ) → Bytes body → length body ≡ 5 → lay_first (first body) ∷ (be16 (at16 body 1) ++ be16 (at16 body 3)) ≡ body
five_again body b n =
    let five : tab 5 (λ i. get_or body i 0) ≡ body = sym (take_tab 5 body (omega arith)) ∙ take_all 5 body (omega arith) in
    rw (first_again (get_or body 0 0) (b 0), be16_at body 1 b, be16_at body 3 b) five

module _ (g : Settings) (body : List ℕ) (b : Bytes body) (some : 1 ≤ length body) where
  back_configuration : scanned (string body) ≡ pass → Back g 0x01 body (fields_of configuration 0x01 body)
  unfolding lay_option be16 fields_of items_of
  back_configuration j =
      let (items, e) = passes _ _ j in
      let is : items_of (read_string (string body)) ≡ items = ap items_of e in
      let (good, lay) = ((strings_exact (string body)).handed items).0 e in
      let whole : lay_first (first body) ∷ lay_items (items_of (read_string (string body))) ≡ body = rw (is, lay) (whole_body body b some) in
      ((few_bits body, rw is good), (λ i. record { type = 0x01; body = whole i }))

  back_balancing : length body ≡ 5 → Back g 0x02 body (fields_of load_balancing 0x02 body)
  unfolding lay_option be16 fields_of
  back_balancing n =
      let whole = five_again body b n in
      (few_bits body, (λ i. record { type = 0x02; body = whole i }))

  back_address : (family : Family) (role : Role) → length body ≡ lay_length family → judge_protocol g.strict family role body ≡ pass
      → Back g (lay_type family role) body (fields_of (address family role) (lay_type family role) body)
  unfolding lay_option be16 fields_of
  back_address family role n j =
      let five : length body ≡ 5 + width family = n ∙ lengths family in
      let wide : length (address_bytes family body) ≡ address_length family =
      length-take-le (width family) (drop 1 body) (rw length-drop (omega arith)) ∙ sym (widths family) in
      let whole : lay_first (first body) ∷ (address_bytes family body ++ (reserved family body ∷ protocol family body ∷ be16 (port family body))) ≡ body =
      rw (address_again (width family) body b five) (whole_body body b some) in
      ((few_bits body, wide, (protocol_judged g.strict family role body).0 j), (λ i. record { type = lay_type family role; body = whole i }))

  back_unknown : (type : ℕ) → Unknown type → (g.discard || has (get_or body 0 0) 0x80) ≡ true → Back g type body (fields_of unknown type body)
  unfolding lay_option be16 fields_of
  back_unknown type u may =
      let whole = whole_body body b some in
      ((few_bits body, u, ⊎_elim (λ d. inr d) (λ d. inl d) (or_cases _ _ may)), (λ i. record { type = type; body = whole i }))

  -- what the judgements say under a type
  abbrev Said : ℕ → Row → Type 0
  Said type r =
      (judge_length r.len (length body) >> judge_content g r.kind body) ≡ pass → permitted g r.kind body ≡ true → Back g type body (fields_of r.kind type body)

  said_at : (type : ℕ) → Said type (row_of type)
  unfolding permitted judge_length judge_content ◌>>◌
  said_at type =
      type-cases type
      (λ e. subst (λ (t : ℕ). Said t (row_of t)) (sym e) (subst (Said 0x01) (sym row_configuration) (λ j m. back_configuration j)))
      (λ e. subst (λ (t : ℕ). Said t (row_of t)) (sym e)
      (subst (Said 0x02) (sym row_load_balancing) (λ j m. back_balancing ((exact_length 5 body).0 (then_accepted _ _ _ j).0))))
      (λ family role e. subst (λ (t : ℕ). Said t (row_of t)) (sym e)
      (subst (Said (lay_type family role)) (sym (row_address family role))
      (λ j m. let (len, carried) = then_accepted _ _ _ j in back_address family role ((exact_length _ body).0 len) carried)))
      (λ u. subst (Said type) (sym (row_unknown type u)) (λ j m. back_unknown type u m))

pub shown : (g : Settings) (f : Frame) → Bytes f.body → Sound (judge_content g) f → permitted g (kind_of f.type) f.body ≡ true
    → OptionFits g (fields f) × (wire (fields f) ≡ f)
unfolding fields judge_kind
shown g f b w may = said_at g f.body b w.some_body f.type w.judged may
