-- The settings of a reading. Assumes nothing: these are definitions.
use Rattle.std.specs.Prelude.{Bool}

pub record Settings : Type 0 where
  -- an unknown option is accepted although it may not be discarded
  pub discard : Bool
  -- an option with an address is refused unless it carries TCP or UDP, and for multicast UDP
  pub strict : Bool
