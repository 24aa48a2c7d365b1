-- One entry: what is read beside `n` options is exactly what is laid out and fits them. Assumes nothing.
use mathlib.Core.Path.{◌≡◌, refl, sym, ap, ap₂, ◌∙◌}
use mathlib.Core.Bool.{Bool, true, false, cond, or-true}
use mathlib.Core.Logic.{◌↔◌, ◌≢◌, inl, inr, ⊎_elim}
use mathlib.Core.List.{List, [], ◌∷◌, ◌++◌}
use Prim.Native.Nat.{ℕ, ◌+◌, ◌*◌, ◌/◌, ◌%◌, ◌≤◌, ◌<◌}
use native.Mathlib.Omega.{arith}
use lib.ListN.{length, drop, get_or, length-append, take-append-drop, get_or-append}
use lib.Dec.{eqb}
use borrow.Author.Tests.{ltb-false, leb-true, eqb-true, eqb-false, le-ltb, le-leb, eq-eqb, ne_eqb}
use Rattle.numbers.specs.Refusals.{unknown_entry}
use Rattle.numbers.specs.Answers.{Answer, accepted, refused, Verdict, pass}
use Rattle.numbers.specs.Bytes.{Bytes, be16, be24, be32, at16, at24, at32}
use Rattle.numbers.proofs.AnswerLaws.{when_pass, when_accepted, not_refused, accepted_inj, bind_pass, bind_accepted, then_pass, then_accepted, refuse_pass}
use Rattle.numbers.proofs.TestLaws.{or_cases}
use Rattle.numbers.proofs.ByteLaws.{be16_at, be24_at, be32_at, tab, take_tab, at16_be, at24_be, at32_be}
use Rattle.sd_format.specs.Options.{has}
use Rattle.sd_format.specs.Entries.{Head, Group, Entry, find, offer, subscribe, subscribe_ack, head_of, head, group, minor, by_type, read_entry, inside, judge_run, judge_runs, placed_entry}
use Rattle.sd_format.specs.Rules.{EntryType}
use Rattle.sd_format.specs.Layout.{bit, lay_head, lay_group, lay_entry, RunFits, GroupFits, TailFits, EntryFits}

pub length_entry : (e : Entry) → length (lay_entry e) ≡ 16
unfolding lay_entry lay_head lay_group be16 be24 be32
length_entry (find h m) = refl
length_entry (offer h m) = refl
length_entry (subscribe h g) = refl
length_entry (subscribe_ack h g) = refl

-- ---- the runs' rule

pub run_inside : (n start count : ℕ) → (inside n start count ≡ true) ↔ RunFits n start count
unfolding inside
run_inside n start count = (
  (λ t. ⊎_elim (λ z. inl (eqb-true count 0 z)) (λ z. inr (leb-true (start + count) n z)) (or_cases (eqb count 0) _ t)),
  ⊎_elim (λ z. rw (eq-eqb count 0 z)) (λ h. rw (le-leb (start + count) n h) (or-true (eqb count 0))),
)

pub run_fits : (run n start count : ℕ) → (judge_run run n start count ≡ pass) ↔ RunFits n start count
unfolding judge_run
run_fits run n start count =
    let inside-fits = run_inside n start count in
    ((λ p. inside-fits.0 ((refuse_pass _ _).0 p)), (λ f. (refuse_pass _ _).1 (inside-fits.1 f)))

-- the verdict on an entry's two runs
abbrev pub runs_of : ℕ → Head → Verdict
runs_of n h = judge_runs n h.start1 h.count1 h.start2 h.count2

runs_fit : (n : ℕ) (h : Head) → (runs_of n h ≡ pass) ↔ (RunFits n h.start1 h.count1 × RunFits n h.start2 h.count2)
unfolding judge_runs
runs_fit n h =
    let one = run_fits 1 n h.start1 h.count1 in
    let two = run_fits 2 n h.start2 h.count2 in (
      (λ p. let w = then_accepted _ _ _ p in (one.0 w.0, two.0 w.1)),
      (λ f. then_pass _ _ (one.1 f.0) ∙ two.1 f.1),
    )

-- ---- reading what was laid out: the head, and either tail, behind any type

head_lay : (type : ℕ) (h : Head) (rest : List ℕ) → h.count2 < 16 → head (type ∷ (lay_head h ++ rest)) ≡ h
unfolding head lay_head be16 be24 at16 at24
head_lay type h rest small =
    let c1 : (h.count1 * 16 + h.count2) / 16 ≡ h.count1 = omega arith in
    let c2 : (h.count1 * 16 + h.count2) % 16 ≡ h.count2 = omega arith in
    λ i. record {
      start1 = h.start1;
      start2 = h.start2;
      count1 = c1 i;
      count2 = c2 i;
      service = at16_be h.service [] i;
      instance = at16_be h.instance [] i;
      major = h.major;
      ttl = at24_be h.ttl [] i;
    }

minor_lay : (type : ℕ) (h : Head) (m : ℕ) (rest : List ℕ) → minor (type ∷ (lay_head h ++ (be32 m ++ rest))) ≡ m
unfolding lay_head be16 be24 be32 at16 at32
minor_lay type h m rest = at32_be m []

-- the byte of the initial data bit, three reserved bits and the counter
module _ (spare counter : ℕ) (s : spare < 8) (c : counter < 16) where
  bit_lay : (b : Bool) → has (bit 0x80 b + spare * 16 + counter) 0x80 ≡ b
  bit_lay true = eq-eqb ((0x80 + spare * 16 + counter) / 0x80 % 2) 1 (omega arith)
  bit_lay false = ne_eqb ((0 + spare * 16 + counter) / 0x80 % 2) 1 (λ e. omega arith)

  spare_lay : (b : Bool) → (bit 0x80 b + spare * 16 + counter) / 16 % 8 ≡ spare
  spare_lay true = omega arith
  spare_lay false = omega arith

  counter_lay : (b : Bool) → (bit 0x80 b + spare * 16 + counter) % 16 ≡ counter
  counter_lay true = omega arith
  counter_lay false = omega arith

group_lay : (type : ℕ) (h : Head) (g : Group) (rest : List ℕ) → GroupFits g → group (type ∷ (lay_head h ++ (lay_group g ++ rest))) ≡ g
unfolding group lay_head lay_group be16 be24 at16
group_lay type h g rest fits =
    λ i. record {
      reserved = g.reserved;
      initial_data = bit_lay g.spare g.counter fits.0 fits.1 g.initial_data i;
      spare = spare_lay g.spare g.counter fits.0 fits.1 g.initial_data i;
      counter = counter_lay g.spare g.counter fits.0 fits.1 g.initial_data i;
      eventgroup = at16_be g.eventgroup [] i;
    }

type_lay : (e : Entry) (rest : List ℕ) → (head_of e).count2 < 16 → TailFits e → by_type (get_or (lay_entry e) 0 0) (lay_entry e ++ rest) ≡ accepted e
unfolding by_type lay_entry lay_head be16 be24
type_lay (find h m) rest small fits = ap₂ (λ x y. accepted (find x y)) (head_lay 0x00 h (be32 m ++ rest) small) (minor_lay 0x00 h m rest)
type_lay (offer h m) rest small fits = ap₂ (λ x y. accepted (offer x y)) (head_lay 0x01 h (be32 m ++ rest) small) (minor_lay 0x01 h m rest)
type_lay (subscribe h g) rest small fits = ap₂ (λ x y. accepted (subscribe x y)) (head_lay 0x06 h (lay_group g ++ rest) small) (group_lay 0x06 h g rest fits)
type_lay (subscribe_ack h g) rest small fits = ap₂ (λ x y. accepted (subscribe_ack x y)) (head_lay 0x07 h (lay_group g ++ rest) small) (group_lay 0x07 h g rest fits)

read_lay : (e : Entry) (rest : List ℕ) → (head_of e).count2 < 16 → TailFits e → read_entry (lay_entry e ++ rest) ≡ accepted e
unfolding read_entry
read_lay e rest small fits =
    let long : 16 ≤ length (lay_entry e ++ rest) = omega (arith, length-append (lay_entry e) rest, length_entry e) in
    let front : get_or (lay_entry e ++ rest) 0 0 ≡ get_or (lay_entry e) 0 0 = get_or-append (lay_entry e) rest 0 0 (omega (arith, length_entry e)) in
    when_pass _ _ _ (le-ltb (length (lay_entry e ++ rest)) 16 long) ∙ rw front (type_lay e rest small fits)

pub entry_lay : (n : ℕ) (e : Entry) (rest : List ℕ) → EntryFits n e → placed_entry n (lay_entry e ++ rest) ≡ accepted e
unfolding placed_entry
entry_lay n e rest fits =
    bind_pass _ _ e (read_lay e rest fits.0.four_bits fits.1) ∙
    then_pass _ _ ((runs_fit n (head_of e)).1 (fits.0.run1, fits.0.run2))

-- ---- laying out what was read

nibbles : (x : ℕ) → x / 16 * 16 + x % 16 ≡ x
nibbles x = omega arith

head_read : (s : List ℕ) → Bytes s → lay_head (head s) ≡ tab 11 (λ i. get_or s (1 + i) 0)
unfolding head lay_head
head_read s b = rw (nibbles (get_or s 3 0), be16_at s 4 b, be16_at s 6 b, be24_at s 9 b, be16_at s 10 b)

four_bits_read : (s : List ℕ) → (head s).count2 < 16
unfolding head
four_bits_read s = omega arith

minor_read : (s : List ℕ) → Bytes s → be32 (minor s) ≡ tab 4 (λ i. get_or s (12 + i) 0)
minor_read s b = rw (be32_at s 12 b, be16_at s 12 b, be16_at s 14 b)

bit_read : (x : ℕ) (b : Bool) → x < 256 → eqb (x / 0x80 % 2) 1 ≡ b → bit 0x80 b + x / 16 % 8 * 16 + x % 16 ≡ x
bit_read x true small e = let h = eqb-true (x / 0x80 % 2) 1 e in omega arith
bit_read x false small e = let h = eqb-false (x / 0x80 % 2) 1 e in omega arith

group_read : (s : List ℕ) → Bytes s → lay_group (group s) ≡ tab 4 (λ i. get_or s (12 + i) 0)
unfolding group lay_group
group_read s b = rw (bit_read (get_or s 13 0) (has (get_or s 13 0) 0x80) (b 13) refl, be16_at s 14 b)

group_small : (s : List ℕ) → GroupFits (group s)
unfolding group
group_small s = (omega arith, omega arith)

-- what an entry of type `type` has to do with the bytes that it was read from
record Taken (type : ℕ) (s : List ℕ) (e : Entry) : Type 0 where
  laid : lay_entry e ≡ type ∷ tab 15 (λ i. get_or s (1 + i) 0)
  headed : head_of e ≡ head s
  tail : TailFits e

-- ---- by its type

module _ (type : ℕ) (s : List ℕ) (P : Answer Entry → Type 0) where
  type_is : (code : ℕ) (x y : Answer Entry) → (type ≡ code → P x) → (type ≢ code → P y) → P (cond (eqb type code) x y)
  type_is code x y same other = go (eqb type code) refl
    where
      go : (t : Bool) → eqb type code ≡ t → P (cond t x y)
      go true e = same (eqb-true type code e)
      go false e = other (eqb-false type code e)

  -- what holds of each of the four, and of a refusal, holds of the answer
  pub entry_cases : (type ≡ 0x00 → P (accepted (find (head s) (minor s)))) → (type ≡ 0x01 → P (accepted (offer (head s) (minor s))))
      → (type ≡ 0x06 → P (accepted (subscribe (head s) (group s)))) → (type ≡ 0x07 → P (accepted (subscribe_ack (head s) (group s))))
      → (¬ EntryType type → P (refused (unknown_entry type))) → P (by_type type s)
  unfolding by_type
  entry_cases finds offers subscribes acks unknown =
      type_is 0x00 _ _ finds
      (λ n0. type_is 0x01 _ _ offers
      (λ n1. type_is 0x06 _ _ subscribes
      (λ n6. type_is 0x07 _ _ acks
      (λ n7. unknown (⊎_elim n0 (⊎_elim n1 (⊎_elim n6 n7)))))))

module _ (type : ℕ) (s : List ℕ) (e : Entry) (b : Bytes s) where
  -- `x`, of type `code`, with its last four bytes `t`
  hit : (code : ℕ) (x : Entry) (t : List ℕ) → t ≡ tab 4 (λ i. get_or s (12 + i) 0) → lay_entry x ≡ code ∷ (lay_head (head s) ++ t) → head_of x ≡ head s → TailFits x
      → type ≡ code → accepted x ≡ accepted e → Taken type s e
  hit code x t last laid headed tail same is =
      let this : x ≡ e = accepted_inj x e is in
      rw (same, ← this) (record { laid = laid ∙ ap₂ (λ y z. code ∷ (y ++ z)) (head_read s b) last; headed = headed; tail = tail })

  type_read : by_type type s ≡ accepted e → Taken type s e
  unfolding lay_entry
  type_read =
      entry_cases type s (λ a. a ≡ accepted e → Taken type s e)
      (hit 0x00 _ _ (minor_read s b) refl refl tt)
      (hit 0x01 _ _ (minor_read s b) refl refl tt)
      (hit 0x06 _ _ (group_read s b) refl refl (group_small s))
      (hit 0x07 _ _ (group_read s b) refl refl (group_small s))
      (λ n p. not_refused _ e p)

-- ---- what an acceptance says

module _ (n : ℕ) (s : List ℕ) (e : Entry) (p : placed_entry n s ≡ accepted e) where
  opened : (read_entry s ≡ accepted e) × (runs_of n (head_of e) ≡ pass)
  unfolding placed_entry
  opened =
      let (x, read, later) = bind_accepted _ _ e p in
      let w = then_accepted _ _ e later in
      let this : x ≡ e = accepted_inj x e w.1 in
      (rw (← this) read, rw (← this) w.0)

  pub entry_plain : read_entry s ≡ accepted e
  entry_plain = opened.0

  typed : (16 ≤ length s) × (by_type (get_or s 0 0) s ≡ accepted e)
  unfolding read_entry
  typed = let w = when_accepted _ _ _ e entry_plain in (ltb-false (length s) 16 w.0, w.1)

  pub entry_long : 16 ≤ length s
  entry_long = typed.0

pub entry_read : (n : ℕ) (s : List ℕ) (e : Entry) → Bytes s → placed_entry n s ≡ accepted e → EntryFits n e × (lay_entry e ++ drop 16 s ≡ s)
entry_read n s e b p =
    let taken = type_read (get_or s 0 0) s e b (typed n s e p).1 in
    let runs = (runs_fit n (head_of e)).0 (opened n s e p).1 in (
      (record { run1 = runs.0; run2 = runs.1; four_bits = rw taken.headed (four_bits_read s) }, taken.tail),
      ap (λ (t : List ℕ). t ++ drop 16 s) (taken.laid ∙ sym (take_tab 16 s (entry_long n s e p))) ∙ take-append-drop 16 s,
    )
