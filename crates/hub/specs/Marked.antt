-- The rules' marked cases (*), all of them in one table: of payloads, options, strings and streams. The two parts of it stand in sd_format and
-- tp_machine, which know nothing of each other. Assumes nothing: these are definitions.
use Rattle.std.specs.Prelude.{◌≡◌, List, ◌++◌, map}
use Rattle.numbers.specs.Answers.{All}
use Rattle.sd_format.specs.Cases as discovery
use Rattle.tp_machine.specs.Cases as joining

pub data Marked : Type 0 where
  read : discovery.Case → Marked
  joined : joining.Case → Marked

-- the case's answer is what the definitions give
abbrev pub Holds : Marked → Type 0
Holds (read c) = discovery.Holds c
Holds (joined c) = joining.seen (joining.run c) ≡ c.shows

abbrev pub table : List Marked
table = map read discovery.table ++ map joined joining.table

abbrev pub MarkedCases : Type 0
MarkedCases = All Holds table
