-- Computed beside the marked cases: the rules' unmarked cases of service discovery and of configuration strings, both sides of the lines of
-- the sizes, of runs and of lookup, the cursors, and the lent table. The marked ones are in specs/Cases.antt. Assumes nothing: these are definitions.
use Rattle.std.specs.Prelude.{ℕ, zero, suc, ◌≡◌, true, List, [], ◌∷◌, ◌++◌, length, replicate}
use Rattle.numbers.specs.Bytes.{be32}
use Rattle.numbers.specs.Answers.{accepted, given, ◌gives◌with◌}
use Rattle.sd_format.specs.Strings.{read_string}
use Rattle.sd_format.specs.Frames.{read_options, lent, table_after, read_index, look_up, next_option, next_of_run, along}
use Rattle.sd_format.specs.Entries.{Entry, offer, head_of, next_entry}
use Rattle.sd_format.specs.Payload.{handed_out}
use Rattle.sd_format.specs.Cases.{the_endpoint, payload_of}
use Rattle.sd_format.specs.Order.{plain, payload, opened, no_entries, kept, no_length, no_terminator}

-- n options `00017780`, of four bytes each
abbrev pub four_byte_options : ℕ → List ℕ
four_byte_options zero = []
four_byte_options (suc n) = 0x00 ∷ 0x01 ∷ 0x77 ∷ 0x80 ∷ four_byte_options n

-- an entry of type 0x00 with these starts and this count byte
abbrev pub runs : (start1 start2 counts : ℕ) → List ℕ
runs start1 start2 counts = 0x00 ∷ start1 ∷ start2 ∷ counts ∷ replicate 12 0

-- a configuration option, a load balancing option and an IPv4 endpoint
abbrev pub configured : List ℕ
configured = 0x00 ∷ 0x02 ∷ 0x01 ∷ 0x00 ∷ 0x00 ∷ []

abbrev pub balanced : List ℕ
balanced = 0x00 ∷ 0x05 ∷ 0x02 ∷ replicate 5 0

abbrev pub addressed : List ℕ
addressed = 0x00 ∷ 0x09 ∷ 0x04 ∷ replicate 9 0

-- the whole payload of the marked cases with a count byte of 0 and run 1 from 200
abbrev pub no_run : List ℕ
no_run =
    (0x80 ∷ 0x00 ∷ 0x00 ∷ 0x00 ∷ be32 16)
    ++ ((0x01 ∷ 200 ∷ 0x00 ∷ 0x00 ∷ 0x12 ∷ 0x34 ∷ 0x56 ∷ 0x78 ∷ 0x01 ∷ 0x00 ∷ 0x0e ∷ 0x10 ∷ 0x01 ∷ 0x00 ∷ 0x00 ∷ 0x00 ∷ [])
    ++ (be32 12 ++ (0x00 ∷ 0x09 ∷ 0x04 ∷ 0x00 ∷ 0xc0 ∷ 0xa8 ∷ 0x01 ∷ 0x01 ∷ 0x00 ∷ 0x06 ∷ 0x1f ∷ 0x90 ∷ [])))

abbrev pub offer_without_run : Entry
offer_without_run =
    offer (record { start1 = 200; start2 = 0; count1 = 0; count2 = 0; service = 0x1234; instance = 0x5678; major = 1; ttl = 3600 }) 0x01000000

pub record Bounds : Type 0 where
  -- payloads
  pub eleven_bytes : payload (replicate 11 0) gives 1 with (12 ∷ [])
  pub no_entry_there : payload (opened 16 ++ be32 0) gives 1 with (28 ∷ [])
  pub too_long : payload (opened 16 ++ (replicate 16 0 ++ be32 1388)) gives 5 with (1416 ∷ [])
  pub zero_count : handed_out plain no_run ≡ accepted (payload_of true (offer_without_run ∷ []) (the_endpoint ∷ []))
  pub all_slots : given (λ r. length r.frames) (payload (no_entries 1388 ++ four_byte_options 347)) ≡ accepted 347
  -- both sides of 1, 2, 4 and 5, each where no other rule would give the same
  pub eleven : payload (opened 1389 ++ (0 ∷ 0 ∷ 0 ∷ [])) gives 1 with (12 ∷ [])
  pub twelve : payload (opened 1389 ++ be32 0) gives 2 with (1389 ∷ [])
  pub entries_1388 : payload (opened 1388 ++ be32 0) gives 3 with (1388 ∷ [])
  pub options_1388 : payload (no_entries 1388) gives 1 with (1400 ∷ [])
  pub options_1389 : payload (no_entries 1389) gives 4 with (1389 ∷ [])
  pub payload_1400 : payload (opened 16 ++ (replicate 16 0 ++ be32 1372)) gives 1 with (1400 ∷ [])
  pub payload_1401 : payload (opened 16 ++ (replicate 16 0 ++ be32 1373)) gives 5 with (1401 ∷ [])
  -- which values 12 has: each run's start and count; and a run that ends with the list of options, or one past it
  pub run_1 : payload (opened 16 ++ (runs 1 2 0x34 ++ be32 0)) gives 12 with (1 ∷ 1 ∷ 3 ∷ 0 ∷ [])
  pub run_2 : payload (opened 16 ++ (runs 1 2 0x04 ++ be32 0)) gives 12 with (2 ∷ 2 ∷ 4 ∷ 0 ∷ [])
  pub run_of_15 : payload (opened 16 ++ (runs 0 0 0xf0 ++ be32 0)) gives 12 with (1 ∷ 0 ∷ 15 ∷ 0 ∷ [])
  pub run_to_the_end : given (λ r. length r.entries) (payload (opened 16 ++ (runs 0 1 0x11 ++ (be32 8 ++ four_byte_options 2)))) ≡ accepted 1
  pub run_past_the_end : payload (opened 16 ++ (runs 0 1 0x12 ++ (be32 8 ++ four_byte_options 2))) gives 12 with (2 ∷ 1 ∷ 2 ∷ 2 ∷ [])
  -- the known kinds are permitted without the discardable bit
  pub known_permitted : given length (read_options plain (configured ++ (balanced ++ addressed))) ≡ accepted 3
  -- strings
  pub trailing : read_string (0x00 ∷ 0x00 ∷ []) gives 9 with (3 ∷ 0 ∷ 0 ∷ [])
  pub spaces : read_string (0x01 ∷ 0x20 ∷ 0x00 ∷ []) gives 9 with (6 ∷ 0 ∷ 0 ∷ [])
  pub bad_byte : read_string (0x02 ∷ 0x41 ∷ 0xff ∷ 0x00 ∷ []) gives 9 with (5 ∷ 0 ∷ 1 ∷ 255 ∷ 0 ∷ [])
  pub long_item : read_string (0x05 ∷ 0x41 ∷ 0x00 ∷ []) gives 9 with (2 ∷ 0 ∷ 5 ∷ 2 ∷ 0 ∷ [])
  pub unterminated : read_string (0x01 ∷ 0x41 ∷ []) gives 9 with (1 ∷ 2 ∷ [])
  -- lookup: the last slot and one past it; the last of the table and one past it; no option at the offset, and an offset past the bytes
  pub slot_346 : given (λ f. f.type) (look_up (kept 0x77) (replicate 348 0) 348 346) ≡ accepted 0x77
  pub slot_347 : look_up (kept 0x77) (replicate 348 0) 348 347 gives 21 with []
  pub last_of_table : given (λ f. f.type) (look_up (kept 0x77) (0 ∷ []) 2 0) ≡ accepted 0x77
  pub past_the_table : look_up (kept 0x77) (0 ∷ []) 2 1 gives 21 with []
  pub no_option : look_up (kept 0x77) (1 ∷ []) 1 0 gives 21 with []
  pub past_the_bytes : look_up (kept 0x77) (5 ∷ []) 1 0 gives 21 with []
  -- the cursors: what they hand out, and where they stand then
  pub option_at_4 : given (λ f. f.type) (next_option plain (kept 0x77 ++ kept 0x78) 4) ≡ accepted 0x78
  pub option_at_the_end : next_option plain (kept 0x77) 4 gives 20 with []
  pub entry_at_16 : given (λ e. (head_of e).start1) (next_entry (runs 1 2 0x34 ++ runs 5 6 0x34) 16) ≡ accepted 5
  pub second_of_run : given (λ f. f.type) (next_of_run (kept 0x77 ++ kept 0x78) (0 ∷ 4 ∷ []) 2 (record { next = 1; left = 2 })) ≡ accepted 0x78
  pub run_leaves_the_list : next_of_run (kept 0x77) (0 ∷ []) 1 (record { next = 1; left = 2 }) gives 20 with []
  pub run_goes_on : along (record { type = 0x77; body = 0 ∷ [] }) (record { next = 5; left = 3 }) ≡ record { next = 6; left = 2 }
  -- 347 slots are enough
  pub enough_slots : lent (replicate 347 9) (read_index plain []) ≡ accepted []
  -- the lent table: nines, of which one stands past the 347; after two options, after a refusal, and with one slot too few
  pub table_filled : table_after (replicate 348 9) (read_index plain (kept 0x77 ++ kept 0x78)) ≡ 0 ∷ 4 ∷ (replicate 345 0 ++ (9 ∷ []))
  pub table_cleared : table_after (replicate 348 9) (read_index plain no_length) ≡ replicate 347 0 ++ (9 ∷ [])
  pub table_of_347 : table_after (replicate 347 9) (read_index plain []) ≡ replicate 347 0
  pub table_kept : table_after (replicate 346 9) (read_index plain (kept 0x77)) ≡ replicate 346 9
  -- the string is not scanned again
  pub not_scanned : given (λ f. f.type) (look_up no_terminator (0 ∷ []) 1 0) ≡ accepted 0x01
