-- What the code refuses is kept apart by `said`, and so are the answers that all layers share: two of which the same is said are one. Shown by a
-- way back. Assumes nothing.
use Rattle.std.specs.Prelude.{ℕ, Result, Ok, Err}
use mathlib.Core.Path.{◌≡◌, refl, sym, ap, ◌∙◌}
use mathlib.Core.Bool.{cond}
use native.Mathlib.Omega.{arith}
use lib.ListN.{get_or}
use lib.Dec.{eqb}
use Rattle.numbers.specs.Refusals as paper
use Rattle.numbers.specs.Refusals.{Place, untold, told}
use Rattle.refusal.specs.declared.LengthSource.{LengthSource}
use Rattle.refusal.specs.declared.LengthSource.TheVariants.{Slice, OptionLength}
use Rattle.refusal.specs.declared.StringError.{StringError}
use Rattle.refusal.specs.declared.StringError.TheVariants as string
use Rattle.refusal.specs.declared.Refusal.{Refusal}
use Rattle.refusal.specs.declared.Refusal.TheVariants as code
use Rattle.numbers.specs.Answers.{Answer, refused}
use Rattle.numbers.proofs.AnswerLaws.{accepted_inj, refused_inj}
use Rattle.refusal.specs.Said.{said, said_by, verdict_said, count_said}

-- ---- back from a number, its values, `v`, and its place, `p`; anything for what is never said

source_of : ℕ → LengthSource
source_of n = cond (eqb n 0) Slice OptionLength

string_of : (ℕ → ℕ) → StringError
string_of v =
    cond (eqb (v 0) 1) string.MissingTerminator
    (cond (eqb (v 0) 2) (string.ItemLengthExceedsRemaining (v 1) (v 2) (v 3))
    (cond (eqb (v 0) 3) (string.TrailingDataAfterTerminator (v 1))
    (cond (eqb (v 0) 4) (string.EmptyKey (v 1))
    (cond (eqb (v 0) 5) (string.InvalidKeyByte (v 1) (v 2) (v 3))
    (string.KeyContainsOnlyWhitespace (v 1))))))

refusal_of : ℕ → (ℕ → ℕ) → ℕ → Refusal
refusal_of n v p =
    cond (eqb n 1) (code.UnexpectedEndOfSlice (v 0))
    (cond (eqb n 2) (code.EntriesLengthTooLarge (v 0))
    (cond (eqb n 3) (code.EntriesLengthUneven (v 0))
    (cond (eqb n 4) (code.OptionsLengthTooLarge (v 0))
    (cond (eqb n 5) (code.PayloadTooLarge (v 0))
    (cond (eqb n 6) (code.PayloadLengthMismatch (v 0) (v 1))
    (cond (eqb n 7) (code.OptionLength (v 0) (v 1) (source_of (v 2)) p)
    (cond (eqb n 8) (code.OptionLengthZero p)
    (cond (eqb n 9) (code.ConfigurationString (string_of v) p)
    (cond (eqb n 10) (code.UnknownOption (v 0) p)
    (cond (eqb n 11) (code.UnknownEntry (v 0))
    (cond (eqb n 12) (code.RunOutOfBounds (v 0) (v 1) (v 2) (v 3))
    (cond (eqb n 13) (code.IndexTooLarge (v 0))
    (cond (eqb n 14) (code.MessageId (v 0))
    (cond (eqb n 15) (code.ClientId (v 0))
    (cond (eqb n 16) code.SessionZero
    (cond (eqb n 17) (code.InterfaceVersion (v 0))
    (cond (eqb n 18) (code.MessageType (v 0))
    (cond (eqb n 19) (code.ReturnCode (v 0))
    (cond (eqb n 20) code.NothingThere
    (cond (eqb n 21) code.TableMisfit
    (cond (eqb n 22) (code.FewSlots (v 0))
    (cond (eqb n 23) (code.WrongProtocol (v 0) p)
    (cond (eqb n 30) code.NotASegment
    (cond (eqb n 31) (code.SegmentTooBig (v 0) (v 1) (v 2))
    (cond (eqb n 32) (code.UnalignedTpPayloadLen (v 0) (v 1))
    (cond (eqb n 33) (code.ConflictingEnd (v 0) (v 1))
    (cond (eqb n 34) (code.BufferTooShort (v 0))
    (cond (eqb n 35) code.RangesFull
    (cond (eqb n 36) (code.LimitTooLarge (v 0))
    (cond (eqb n 37) code.NotComplete
    (cond (eqb n 38) code.MalformedState
    code.CountFull)))))))))))))))))))))))))))))))

value : paper.Refusal → ℕ → ℕ
value r i = get_or r.values i 0

abbrev byte_of : Place → ℕ
byte_of untold = 0
byte_of (told p) = p

-- ---- and that it leads back

back : (r : Refusal) → refusal_of (said r).number (value (said r)) (byte_of (said r).place) ≡ r
unfolding refusal_of source_of string_of value
back r = grind arith

pub one_to_one : (x y : Refusal) → said x ≡ said y → x ≡ y
one_to_one x y same = sym (back x) ∙ ap (λ (r : paper.Refusal). refusal_of r.number (value r) (byte_of r.place)) same ∙ back y

-- ---- the answers: one-to-one, and so of any promise that says what they say there is one outcome

-- two refusals that are told as one
pub same_refusal : {A : Type 0} (x y : Refusal) → ◌≡◌ {A = Answer A} (refused (said x)) (refused (said y)) → x ≡ y
same_refusal {A} x y same = one_to_one x y (refused_inj {A = A} (said x) (said y) same)

-- whose words keep apart what was accepted
pub said_one_to_one : {A B : Type 0} (f : A → B) → ((a b : A) → f a ≡ f b → a ≡ b) → (x y : Result A Refusal) → said_by f x ≡ said_by f y → x ≡ y
said_one_to_one f apart (Ok a) (Ok b) same = ap Ok (apart a b (accepted_inj (f a) (f b) same))
said_one_to_one f apart (Ok a) (Err r) same = cc
said_one_to_one f apart (Err r) (Ok a) same = cc
said_one_to_one f apart (Err r) (Err q) same = ap Err (same_refusal r q same)

pub verdict_one_to_one : (x y : Result (Unit {0}) Refusal) → verdict_said x ≡ verdict_said y → x ≡ y
verdict_one_to_one = said_one_to_one _ (λ a b same. refl)

pub count_one_to_one : (x y : Result ℕ Refusal) → count_said x ≡ count_said y → x ≡ y
count_one_to_one = said_one_to_one _ (λ n m same. same)
