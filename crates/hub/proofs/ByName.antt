-- What C is told of one entry, one option and one item, by the names of the exported fields. Assumes nothing.
use Prim.Native.Nat.{ℕ, ◌+◌, ◌*◌, ◌-◌, ◌/◌, ◌≤◌, ◌<◌}
use mathlib.Core.Path.{◌≡◌, refl, sym, ap, ◌∙◌, subst}
use mathlib.Core.Bool.{Bool, true, false, cond}
use mathlib.Core.List.{List, [], ◌∷◌, ◌++◌}
use native.Mathlib.Omega.{arith}
use lib.ListN.{length, take, drop, get_or}
use lib.Seq.{take_at, take_all}
use Rattle.numbers.specs.Refusals.{Refusal, gives}
use Rattle.numbers.specs.Answers as paper
use Rattle.numbers.specs.Bytes.{be16}
use Rattle.numbers.proofs.AnswerLaws.{accepted_inj, when_accepted, then_accepted}
use Rattle.sd_format.specs.Settings.{Settings}
use Rattle.sd_format.specs.Options.{Family, ipv4, ipv6, First, Opt, configuring, balancing, addressed, unrecognised}
use Rattle.sd_format.specs.Entries as format
use Rattle.sd_format.specs.Layout.{bit, lay_items, lay_option, lay_first, address_length, OptionFits, lay_head, lay_group, lay_entry}
use Rattle.config_string.specs.Items.{next_item}
use Rattle.hub.specs.declared.entries.Entry.{Entry}
use Rattle.hub.specs.declared.options.Option.{Option}
use Rattle.hub.specs.Answers.{row, told, item_values}
use Rattle.hub.specs.Entries.{entry_fields, entry_told}
use Rattle.hub.specs.Options.{option_fields, option_told}
use Rattle.hub.specs.ByName.{TellsEntry, EmptyEntry, TellsOption, EmptyOption, TellsItem, ByName}
use Rattle.hub.proofs.OfTheHub.{take_its_length}

-- ---- an entry

-- a bit that is told as 1 or 0, where its layout has it
bit_times : (b : Bool) → cond b 1 0 * 128 ≡ bit 0x80 b
bit_times true = refl
bit_times false = refl

entry_zero : (e : format.Entry) → (entry_fields e).answer ≡ row 0 []
entry_zero (format.find h m) = refl
entry_zero (format.offer h m) = refl
entry_zero (format.subscribe h g) = refl
entry_zero (format.subscribe_ack h g) = refl

entry_by_name : (e : format.Entry) → TellsEntry e (entry_fields e)
unfolding lay_entry lay_head lay_group
entry_by_name (format.find h m) = (refl, record { initial_data = refl; counter = refl; eventgroup = refl; reserved = refl; spare = refl })
entry_by_name (format.offer h m) = (refl, record { initial_data = refl; counter = refl; eventgroup = refl; reserved = refl; spare = refl })
entry_by_name (format.subscribe h g) =
    ((λ i. 0x06 ∷ (lay_head h ++ (g.reserved ∷ (bit_times g.initial_data i + g.spare * 16 + g.counter) ∷ be16 g.eventgroup))), record { minor = refl })
entry_by_name (format.subscribe_ack h g) =
    ((λ i. 0x07 ∷ (lay_head h ++ (g.reserved ∷ (bit_times g.initial_data i + g.spare * 16 + g.counter) ∷ be16 g.eventgroup))), record { minor = refl })

empty_entry : (q : Refusal) → EmptyEntry (entry_told (paper.refused q))
empty_entry q =
    record {
      head = (refl, refl, refl, refl, refl);
      ids = (refl, refl, refl, refl);
      no_service = record { minor = refl };
      no_eventgroup = record { initial_data = refl; counter = refl; eventgroup = refl; reserved = refl; spare = refl };
    }

-- ---- an option

-- the discardable bit as it is told
bit_told : (b : First) → b.others < 128 → cond b.discardable 1 0 ≡ lay_first b / 128
bit_told b few = go b.discardable
  where
    go : (d : Bool) → cond d 1 0 ≡ (bit 0x80 d + b.others) / 128
    go true = omega arith
    go false = omega arith

-- a string has its closing zero, an address some bytes
some_string : (items : List (List ℕ)) → 1 ≤ length (lay_items items)
unfolding lay_items
some_string [] = omega arith
some_string (item ∷ items) = omega arith

some_address : (family : Family) → 4 ≤ address_length family
some_address ipv4 = omega arith
some_address ipv6 = omega arith

option_zero : (size : ℕ) (o : Opt) → (option_fields size o).answer ≡ row 0 []
option_zero size (configuring b items) = refl
option_zero size (balancing b p w) = refl
option_zero size (addressed family role b a r p q) = refl
option_zero size (unrecognised type b rest) = refl

option_by_name : (g : Settings) (o : Opt) → OptionFits g o → TellsOption o (option_fields (length (lay_option o)) o)
unfolding lay_option be16
option_by_name g (configuring b items) fit =
    record {
      type = refl;
      size = refl;
      discardable = bit_told b fit.0;
      priority_told = refl;
      weight_told = refl;
      protocol_told = refl;
      port_told = refl;
      address_there = refl;
      address_long = refl;
      no_address = λ e. refl;
      string_there = take_all (length (lay_option (configuring b items)) - 4) (lay_items items) (omega arith);
      string_long = omega arith;
      no_string = λ e. let none = ap length e in absurd (omega (arith, some_string items));
    }
option_by_name g (balancing b p w) fit =
    record {
      type = refl;
      size = refl;
      discardable = bit_told b fit;
      priority_told = refl;
      weight_told = refl;
      protocol_told = refl;
      port_told = refl;
      address_there = refl;
      address_long = refl;
      no_address = λ e. refl;
      string_there = refl;
      string_long = refl;
      no_string = λ e. refl;
    }
option_by_name g (addressed family role b a r p q) fit =
    record {
      type = refl;
      size = refl;
      discardable = bit_told b fit.0;
      priority_told = refl;
      weight_told = refl;
      protocol_told = refl;
      port_told = refl;
      address_there = take_at a _ (address_length family) fit.1;
      address_long = sym fit.1;
      no_address = λ e. let none = ap length e in absurd (omega (arith, some_address family, fit.1));
      string_there = refl;
      string_long = refl;
      no_string = λ e. refl;
    }
option_by_name g (unrecognised type b rest) fit =
    record {
      type = refl;
      size = refl;
      discardable = bit_told b fit.0;
      priority_told = refl;
      weight_told = refl;
      protocol_told = refl;
      port_told = refl;
      address_there = refl;
      address_long = refl;
      no_address = λ e. refl;
      string_there = refl;
      string_long = refl;
      no_string = λ e. refl;
    }

empty_option : (q : Refusal) → EmptyOption (option_told (paper.refused q))
empty_option q =
    record {
      head = (refl, refl, refl);
      balancing = (refl, refl);
      address = (refl, refl, refl, refl);
      string = (refl, refl);
    }

-- ---- an item

item_by_name : (s : List ℕ) (at : ℕ) (item : List ℕ) → next_item s at ≡ paper.accepted item → TellsItem s at item (told (item_values at) (next_item s at))
unfolding next_item
item_by_name s at item e =
    let found = (then_accepted _ _ item (when_accepted _ _ _ item (when_accepted _ _ _ item e).1).1).1 in
    let same : take (get_or s at 0) (drop (at + 1) s) ≡ item = accepted_inj _ item found in
    record {
      answer = ap (told (item_values at)) e;
      there = ap (λ (l : List ℕ). take (length l) (drop (at + 1) s)) (sym same) ∙ take_its_length (get_or s at 0) (drop (at + 1) s) ∙ same;
    }

pub by_name : ByName
by_name =
    record {
      entry = λ e r is. subst (λ (x : Entry). (x.answer ≡ row 0 []) × TellsEntry e x) (sym is) (entry_zero e, entry_by_name e);
      no_entry = λ q r is. subst (λ (x : Entry). (x.answer ≡ row q.number (gives q)) × EmptyEntry x) (sym is) (refl, empty_entry q);
      option = λ g o fit r is. subst (λ (x : Option). (x.answer ≡ row 0 []) × TellsOption o x) (sym is) (option_zero (length (lay_option o)) o, option_by_name g o fit);
      no_option = λ q r is. subst (λ (x : Option). (x.answer ≡ row q.number (gives q)) × EmptyOption x) (sym is) (refl, empty_option q);
      item = item_by_name;
      verdict = refl;
      count = λ n. refl;
    }
