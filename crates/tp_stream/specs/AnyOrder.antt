-- Calls of a stream one after the other, and that the order in which segments come to it does not matter (tp_machine, specs/AnyOrder.antt).
-- Assumes nothing: these are definitions.
use Rattle.std.specs.Prelude.{ℕ, ◌≡◌, true, List, [], ◌∷◌, ◌↔◌, length, Result}
use Rattle.numbers.specs.Answers.{accepted, pass}
use Rattle.refusal.specs.declared.Refusal.{Refusal}
use Rattle.refusal.specs.declared.answers.Step.{Step}
use Rattle.refusal.specs.Said.{verdict_said, count_said}
use Rattle.tp_machine.specs.Machine.{clear}
use Rattle.tp_machine.specs.Taking.{complete, ready, report}
use Rattle.tp_machine.specs.Meaning.{Good}
use Rattle.tp_machine.specs.AnyOrder.{Suited, Feed, NoneRefused, EachFed}
use Rattle.tp_stream.specs.declared.TpStream.{TpStream}
use Rattle.tp_stream.specs.Stream.{view, stored}
use Rattle.tp_stream.specs.Promises.{Began, Ran, Took}

-- each with the stream and the buffer that the one before it left
pub data Called : TpStream → List ℕ → List (List ℕ) → TpStream → List ℕ → Type 0 where
  none : {s : TpStream} {buf : List ℕ} → Called s buf [] s buf
  next : {s : TpStream} {buf seg : List ℕ} {segs : List (List ℕ)} {r : Step (Unit {0}) TpStream} {after : List ℕ} {t : TpStream} {end : List ℕ}
      → Ran s seg buf r after → Called r.after after segs t end → Called s buf (seg ∷ segs) t end

-- each of them passed its segment
abbrev pub AllPassed : {s t : TpStream} {buf end : List ℕ} {segs : List (List ℕ)} → Called s buf segs t end → Type 0
AllPassed none = Unit {0}
AllPassed (next {r = r} ran more) = (verdict_said r.answer ≡ pass) × AllPassed more

-- a fresh stream of a limit: one that is begun, or a well-formed one of that limit that is cleared
pub data Fresh (limit : ℕ) : TpStream → Type 0 where
  begun : (r : Step (Unit {0}) TpStream) → Began limit r → Fresh limit r.after
  cleared : (s t : TpStream) → Good (view s) → (view s).limit ≡ limit → t ≡ stored s (clear (view s)) → Fresh limit t

-- segments come to it: what is left
pub record FedTo (f : Feed) (t : TpStream) (buf : List ℕ) : Type 0 where
  pub first : TpStream
  pub fresh : Fresh f.limit first
  pub comes : Called first f.buffer f.segments t buf

-- the report is taken and handed out
pub record HandsOut (t : TpStream) (buf : List ℕ) (r : Result ℕ Refusal) (part : List ℕ) : Type 0 where
  pub after : List ℕ
  pub takes : Took t buf r after
  pub hands : part ≡ report (ready (view t) (length after)) after

-- two streams: both are complete or neither is, and when complete the reports handed out are equal byte for byte
pub record SameReports (t u : TpStream) (b c : List ℕ) : Type 0 where
  pub both_or_neither : complete (view t) ≡ complete (view u)
  pub equal : complete (view t) ≡ true → (r q : Result ℕ Refusal) (m n : List ℕ) → HandsOut t b r m → HandsOut u c q n
      → (m ≡ n) × ((end : ℕ) × (count_said r ≡ accepted end) × (count_said q ≡ accepted end))

pub record AnyOrder : Type 0 where
  -- no segment is refused exactly where each call passes its own
  pub none_refused : (f : Feed) {t : TpStream} {b : List ℕ} (k : FedTo f t b) → AllPassed k.comes ↔ NoneRefused f
  pub same_reports : (f g : Feed) → Suited f.segments → EachFed f g → {t u : TpStream} {b c : List ℕ} → FedTo f t b → FedTo g u c → SameReports t u b c
