-- The segment that a piece stands for, and what is promised of the calls that hand it to a stream and to the exported one. Assumes nothing: these
-- are definitions.
use Rattle.refusal.specs.declared.Refusal.{Refusal}
use Rattle.std.specs.Prelude.{ℕ, ◌*◌, ◌/◌, min, ◌≡◌, List, [], Result, Ok, Err}
use Rattle.refusal.specs.declared.values.Numbers.{Numbers}
use Rattle.refusal.specs.Said.{said, laid}
use Rattle.numbers.specs.Refusals.{refusal}
use Rattle.tp_machine.specs.Cases.{segment}
use Rattle.tp_machine.specs.Machine.{begin}
use Rattle.tp_machine.specs.Taking.{taking}
use Rattle.tp_stream.specs.declared.TpStream.{TpStream}
use Rattle.tp_stream.specs.Stream.{view, stored, blank}
use Rattle.tp_stream.specs.Promises.{Ran}
use Rattle.tp_words.specs.Words.{state_of, put}
use Rattle.hub.specs.Tp.{Consumes}
use Rattle.tp_pieces.specs.declared.Piece.{Piece}
use Rattle.tp_pieces.specs.declared.Came.{Came}

-- how many bytes of payload it has: 16 at most
abbrev pub size : Piece → ℕ
size p = min p.length 16

-- where they go: the four low bits are not sent
abbrev pub offset : Piece → ℕ
offset p = p.offset / 16 * 16

-- the segment that it stands for, as the rules' cases write one
abbrev pub bytes : Piece → List ℕ
bytes p = segment (size p) p.more (offset p)

-- a verdict's number and values
abbrev pub numbers : Result (Unit {0}) Refusal → Numbers
numbers (Ok _) = laid (refusal 0 [])
numbers (Err r) = laid (said r)

-- a stream is begun, and the same in words
pub record Begun (limit : ℕ) (ws : List ℕ) (s : TpStream) (ws' : List ℕ) : Type 0 where
  pub stream : s ≡ stored blank (begin limit)
  pub words : ws' ≡ put ws (stored blank (begin limit))

-- a segment came to a stream over a buffer, and to words over another: what was said, and what C was told
pub record Brought (seg : List ℕ) (s : TpStream) (buf ws other : List ℕ) (r : Came) (t : TpStream) (buf' ws' other' : List ℕ) : Type 0 where
  pub verdict : Result (Unit {0}) Refusal
  pub says : r.said ≡ numbers verdict
  pub here : Ran s seg buf (record { answer = verdict; after = t }) buf'
  pub there : Consumes ws seg other r.told ws' other'

-- the segment of a piece did
abbrev pub CameTo : (p : Piece) (s : TpStream) (buf ws other : List ℕ) (r : Came) (t : TpStream) (buf' ws' other' : List ℕ) → Type 0
CameTo p = Brought (bytes p)

-- the same, whatever was said
pub record Comes (p : Piece) (s : TpStream) (buf ws other : List ℕ) (t : TpStream) (buf' ws' other' : List ℕ) : Type 0 where
  pub came : Came
  pub both : CameTo p s buf ws other came t buf' ws' other'

-- the report is taken, of a stream and of words: what their buffers hold then
pub record Takes (s : TpStream) (buf ws other buf' other' : List ℕ) : Type 0 where
  pub here : buf' ≡ (taking (view s) buf).buffer
  pub there : other' ≡ (taking (state_of ws) other).buffer
