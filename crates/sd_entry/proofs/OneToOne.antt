-- Each promise of this crate allows one outcome: the code's entries and answers are kept apart by what is said of them.
-- Assumes nothing.
use Rattle.refusal.specs.declared.answers.Step.{Step}
use Rattle.std.specs.Prelude.{Result, Ok, Err}
use Rattle.refusal.specs.declared.Refusal.{Refusal}
use Rattle.refusal.specs.declared.Refusal.TheVariants.{UnknownEntry}
use Prim.Native.Nat.{ℕ}
use mathlib.Core.Path.{◌≡◌, refl, sym, ap, ◌∙◌}
use mathlib.Core.Bool.{cond}
use mathlib.Core.Logic.{⊎_elim}
use mathlib.Core.List.{List}
use native.Mathlib.Omega.{arith}
use lib.Dec.{eqb}
use borrow.Author.Tests.{ne_eqb}
use Rattle.numbers.specs.Answers.{verdict}
use Rattle.numbers.proofs.AnswerLaws.{accepted_inj, not_refused}
use Rattle.sd_format.specs.Entries.{Head, Group, Entry, find, offer, subscribe, subscribe_ack, head, group, head_of, read_entry, placed_entry}
use Rattle.refusal.specs.Said.{verdict_said}
use Rattle.refusal.proofs.OneToOne.{same_refusal, verdict_one_to_one}
use Rattle.sd_entry.specs.Said.{head_said, group_said, entry_said, answer_said}
use Rattle.sd_entry.specs.Steps.{Stepped}
use Rattle.sd_entry.specs.Types.{ServiceTyped, EventgroupTyped}
use Rattle.sd_entry.specs.declared.SdServiceEntryType.{SdServiceEntryType}
use Rattle.sd_entry.specs.declared.EventGroupEntryType.{EventGroupEntryType}
use Rattle.sd_entry.specs.declared.SdServiceEntryType.TheVariants.{FindService, OfferService}
use Rattle.sd_entry.specs.declared.EventGroupEntryType.TheVariants.{SubscribeOrStop, SubscribeAckOrNack}
use Rattle.sd_entry.specs.declared.EntryHead.{EntryHead}
use Rattle.sd_entry.specs.declared.EventGroup.{EventGroup}
use Rattle.sd_entry.specs.declared.SdEntry.{SdEntry}
use Rattle.sd_entry.specs.declared.SdEntry.TheVariants.{Service, Eventgroup}
use Rattle.sd_entry.specs.declared.cursor.EntryCursor.{EntryCursor}

-- ---- a way back from what is said of an entry

head_back : Head → EntryHead
head_back h =
    record {
      start_index_options_1 = h.start1;
      start_index_options_2 = h.start2;
      number_of_options_1 = h.count1;
      number_of_options_2 = h.count2;
      service_id = h.service;
      instance_id = h.instance;
      major_version = h.major;
      ttl = h.ttl;
    }

group_back : Group → EventGroup
group_back g =
    record {
      reserved = g.reserved;
      initial_data_requested = g.initial_data;
      spare = g.spare;
      counter = g.counter;
      eventgroup_id = g.eventgroup;
    }

entry_back : Entry → SdEntry
entry_back (find h m) = Service FindService (head_back h) m
entry_back (offer h m) = Service OfferService (head_back h) m
entry_back (subscribe h g) = Eventgroup SubscribeOrStop (head_back h) (group_back g)
entry_back (subscribe_ack h g) = Eventgroup SubscribeAckOrNack (head_back h) (group_back g)

back : (e : SdEntry) → entry_back (entry_said e) ≡ e
unfolding entry_back head_back group_back
back (Service FindService h m) = refl
back (Service OfferService h m) = refl
back (Eventgroup SubscribeOrStop h g) = refl
back (Eventgroup SubscribeAckOrNack h g) = refl

-- ---- one-to-one

pub head_one_to_one : (x y : EntryHead) → head_said x ≡ head_said y → x ≡ y
unfolding head_back
head_one_to_one x y same = ap head_back same

pub group_one_to_one : (x y : EventGroup) → group_said x ≡ group_said y → x ≡ y
unfolding group_back
group_one_to_one x y same = ap group_back same

pub entry_one_to_one : (x y : SdEntry) → entry_said x ≡ entry_said y → x ≡ y
entry_one_to_one x y same = sym (back x) ∙ ap entry_back same ∙ back y

pub answer_one_to_one : (x y : (Result SdEntry Refusal)) → answer_said x ≡ answer_said y → x ≡ y
answer_one_to_one (Ok d) (Ok e) same = ap Ok (entry_one_to_one d e (accepted_inj _ _ same))
answer_one_to_one (Ok d) (Err q) same = not_refused _ _ (sym same)
answer_one_to_one (Err r) (Ok e) same = not_refused _ _ same
answer_one_to_one (Err r) (Err q) same = ap Err (same_refusal r q same)

-- ---- any two outcomes that a promise allows are the same

pub read_entry_only : (s : List ℕ) (x y : (Result SdEntry Refusal)) → answer_said x ≡ read_entry s → answer_said y ≡ read_entry s → x ≡ y
read_entry_only s x y p q = answer_one_to_one x y (p ∙ sym q)

pub head_only : (e : SdEntry) (x y : EntryHead) → head_said x ≡ head_of (entry_said e) → head_said y ≡ head_of (entry_said e) → x ≡ y
head_only e x y p q = head_one_to_one x y (p ∙ sym q)

pub entry_head_only : (bytes : List ℕ) (x y : EntryHead) → head_said x ≡ head bytes → head_said y ≡ head bytes → x ≡ y
entry_head_only bytes x y p q = head_one_to_one x y (p ∙ sym q)

pub event_group_only : (bytes : List ℕ) (x y : EventGroup) → group_said x ≡ group bytes → group_said y ≡ group bytes → x ≡ y
event_group_only bytes x y p q = group_one_to_one x y (p ∙ sym q)

pub judge_entry_only : (n : ℕ) (s : List ℕ) (x y : (Result (Unit {0}) Refusal)) → verdict_said x ≡ verdict (placed_entry n s) → verdict_said y ≡ verdict (placed_entry n s) → x ≡ y
judge_entry_only n s x y p q = verdict_one_to_one x y (p ∙ sym q)

pub next_only : (s : List ℕ) (at : ℕ) (x y : (Step SdEntry EntryCursor)) → Stepped s at x → Stepped s at y → x ≡ y
next_only s at x y p q =
    let answer = answer_one_to_one x.answer y.answer (p.answer ∙ sym q.answer) in
    let place = p.cursor ∙ sym q.cursor in
    λ i. record { answer = answer i; after = record { at = place i } }

pub new_only : (x y : EntryCursor) → x.at ≡ 0 → y.at ≡ 0 → x ≡ y
new_only x y p q = λ i. record { at = (p ∙ sym q) i }

-- ---- a type read from its code

service_back : ℕ → Result SdServiceEntryType Refusal
service_back code = cond (eqb code 0x00) (Ok FindService) (cond (eqb code 0x01) (Ok OfferService) (Err (UnknownEntry code)))

service_typed : (code : ℕ) (x : Result SdServiceEntryType Refusal) → ServiceTyped code x → x ≡ service_back code
unfolding service_back
service_typed code (Ok FindService) is = rw (← is) refl
service_typed code (Ok OfferService) is = rw (← is) refl
service_typed code (Err r) (is, none) = rw (ne_eqb code 0x00 (λ e. omega arith), ne_eqb code 0x01 (λ e. omega arith)) (ap Err is)

pub service_typed_only : (code : ℕ) (x y : Result SdServiceEntryType Refusal) → ServiceTyped code x → ServiceTyped code y → x ≡ y
service_typed_only code x y p q = service_typed code x p ∙ sym (service_typed code y q)

eventgroup_back : ℕ → Result EventGroupEntryType Refusal
eventgroup_back code = cond (eqb code 0x06) (Ok SubscribeOrStop) (cond (eqb code 0x07) (Ok SubscribeAckOrNack) (Err (UnknownEntry code)))

eventgroup_typed : (code : ℕ) (x : Result EventGroupEntryType Refusal) → EventgroupTyped code x → x ≡ eventgroup_back code
unfolding eventgroup_back
eventgroup_typed code (Ok SubscribeOrStop) is = rw (← is) refl
eventgroup_typed code (Ok SubscribeAckOrNack) is = rw (← is) refl
eventgroup_typed code (Err r) (is, none) =
    rw (
      ne_eqb code 0x06 (λ e. ⊎_elim (λ h. omega arith) (λ h. omega arith) none),
      ne_eqb code 0x07 (λ e. ⊎_elim (λ h. omega arith) (λ h. omega arith) none),
    ) (ap Err is)

pub eventgroup_typed_only : (code : ℕ) (x y : Result EventGroupEntryType Refusal) → EventgroupTyped code x → EventgroupTyped code y → x ≡ y
eventgroup_typed_only code x y p q = eventgroup_typed code x p ∙ sym (eventgroup_typed code y q)
