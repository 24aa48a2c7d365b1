-- Laws of a stream's record: the state that it holds, and a record with a state put into it. Assumes nothing.
use Rattle.std.specs.Prelude.{Result, Ok, Err, None}
use Prim.Native.Nat.{ℕ, ◌-◌, ◌≤◌, ◌<◌}
use mathlib.Core.Path.{◌≡◌, refl, sym, ap, ◌∙◌}
use mathlib.Core.Bool.{Bool, true, false, cond}
use mathlib.Core.List.{List, [], ◌++◌, append-nil, append_assoc, map}
use native.Mathlib.Omega.{arith}
use borrow.Author.Tests.{leb-true, leb-false, lt-ltb, le-ltb}
use lib.Dec.{leb, ltb}
use lib.ListN.{length, take, drop, replicate, length-append, length-take, length-replicate, length-map, take-append-drop}
use lib.Seq.{take-length, take_all, take-append_seam}
use Rattle.tp_machine.specs.declared.TpRange.{TpRange}
use Rattle.numbers.specs.Refusals.{limit_too_large}
use Rattle.numbers.specs.Answers.{refused, pass, refuse◌when◌else◌}
use Rattle.numbers.proofs.AnswerLaws.{when_hit, when_pass, not_refused}
use Rattle.refusal.specs.declared.Refusal.{Refusal}
use Rattle.refusal.specs.declared.Refusal.TheVariants.{LimitTooLarge}
use Rattle.refusal.specs.Said.{said, verdict_said}
use Rattle.tp_machine.specs.Machine.{most, highest, State, fresh, begun, begin, clear}
use Rattle.tp_range.specs.Joining.{none, placed}
use Rattle.tp_range.proofs.Laws.{over, over_length, placed_over}
use Rattle.tp_stream.specs.declared.TpStream.{TpStream}
use Rattle.tp_stream.specs.Stream.{held, view, stored, blank}
use Rattle.tp_stream.specs.Promises.{Began}

-- what owning a struct tells of an array in it speaks of the elements mapped
pub length_of_map : (X Y : Type 0) (f : X → Y) (l : List X) (n : ℕ) → length (map f l) ≡ n → length l ≡ n
length_of_map X Y f l n e = sym (length-map l f) ∙ e

pub held_length : (n : ℕ) (rs : List TpRange) → length (held n rs) ≡ n
unfolding held
held_length n rs = simp (length-append, length-take, length-replicate) (omega arith)

pub held_take : (n : ℕ) (rs : List TpRange) → n ≤ length rs → held n rs ≡ take n rs
unfolding held
held_take n rs h =
    let z : n - length rs ≡ 0 = omega arith in
    rw z (append-nil (take n rs))

-- a count past the end holds the whole array first
many : (n : ℕ) (rs : List TpRange) → length rs < n → placed rs (held n rs) ≡ rs
unfolding held placed
many n rs h =
    let zeros : List TpRange = replicate (n - length rs) none in
    let behind : List TpRange = drop (length (held n rs)) rs in
    ap (λ (l : List TpRange). take (length rs) ((l ++ zeros) ++ behind)) (take_all n rs (omega arith))
    ∙ ap (take (length rs)) (append_assoc rs zeros behind)
    ∙ take-append_seam rs (zeros ++ behind)

-- the ranges that an array holds, put into it, leave it as it was
placed_held : (n : ℕ) (rs : List TpRange) → placed rs (held n rs) ≡ rs
placed_held n rs = go (leb n (length rs)) refl
  where
    few : n ≤ length rs → placed rs (held n rs) ≡ rs
    few h =
        placed_over rs (held n rs) (omega (arith, held_length n rs))
        ∙ (λ i. held_take n rs h i ++ drop (held_length n rs i) rs)
        ∙ take-append-drop n rs

    go : (b : Bool) → leb n (length rs) ≡ b → placed rs (held n rs) ≡ rs
    go true e = few (leb-true n (length rs) e)
    go false e = many n rs (leb-false n (length rs) e)

pub stored_view : (s : TpStream) → stored s (view s) ≡ s
stored_view s = λ i. record { limit = s.limit; ranges = placed_held s.count s.ranges i; count = held_length s.count s.ranges i; end = s.end; accepted = s.accepted }

-- ranges put into an array are those that it then holds
held_placed : (array rs : List TpRange) → length rs ≤ length array → held (length rs) (placed array rs) ≡ rs
held_placed array rs h =
    ap (held (length rs)) (placed_over array rs h)
    ∙ held_take (length rs) (over rs array) (omega (arith, over_length rs array h))
    ∙ take-append_seam rs (drop (length rs) array)

pub view_stored : (s : TpStream) (p : State) → length p.ranges ≤ length s.ranges → view (stored s p) ≡ p
view_stored s p h = λ i. record { limit = p.limit; ranges = held_placed s.ranges p.ranges h i; end = p.end; count = p.count }

-- ---- beginning and clearing
keeps_places : (rs : List TpRange) → rs ≡ placed rs []
unfolding placed
keeps_places rs = sym (take-length rs)

pub cleared : (s : TpStream) → record { limit = s.limit; ranges = s.ranges; count = 0; end = None; accepted = 0 } ≡ stored s (clear (view s))
unfolding clear
cleared s = λ i. record { limit = s.limit; ranges = keeps_places s.ranges i; count = 0; end = None; accepted = 0 }

pub fresh_stored : (limit : ℕ) → record { limit = limit; ranges = replicate most none; count = 0; end = None; accepted = 0 } ≡ stored blank (fresh limit)
unfolding blank clear
fresh_stored limit = cleared (record { limit = limit; ranges = replicate most none; count = 0; end = None; accepted = 0 })

-- the answer to the limit that is asked for
module _ (limit : ℕ) where
  pub begun_not : highest < limit → refused (limit_too_large limit) ≡ begun limit
  unfolding begun
  begun_not h = rw (lt-ltb highest limit h, when_hit)

  pub begun_well : limit ≤ highest → pass ≡ begun limit
  unfolding begun
  begun_well h = rw (le-ltb highest limit h, when_pass)

  -- the limit that is granted, by what was answered
  pub refused_begins : (a : Result (Unit {0}) Refusal) (r : Refusal) (s : TpStream) → a ≡ Err r → verdict_said a ≡ begun limit → s ≡ stored blank (fresh 0) → Began limit (record { answer = a; after = s })
  unfolding begun begin refuse◌when◌else◌
  refused_begins a r s is q e = record { answers = q; begins = go (ltb highest limit) (ap verdict_said (sym is) ∙ q) }
    where
      go : (b : Bool) → refused (said r) ≡ (refuse limit_too_large limit when b else pass) → s ≡ stored blank (fresh (cond b 0 limit))
      go true w = e
      go false w = not_refused (said r) tt w

  pub passed_begins : (a : Result (Unit {0}) Refusal) (s : TpStream) → a ≡ Ok tt → verdict_said a ≡ begun limit → s ≡ stored blank (fresh limit) → Began limit (record { answer = a; after = s })
  unfolding begun begin refuse◌when◌else◌
  passed_begins a s is q e = record { answers = q; begins = go (ltb highest limit) (ap verdict_said (sym is) ∙ q) }
    where
      go : (b : Bool) → pass ≡ (refuse limit_too_large limit when b else pass) → s ≡ stored blank (fresh (cond b 0 limit))
      go true w = not_refused (limit_too_large limit) tt (sym w)
      go false w = e

-- the limit that is granted, by the test of it
module _ (limit : ℕ) (s : TpStream) where
  pub began_not : highest < limit → s ≡ stored blank (fresh 0) → Began limit (record { answer = Err (LimitTooLarge limit); after = s })
  unfolding begun begin
  began_not h e = record { answers = rw (lt-ltb highest limit h, when_hit); begins = rw (lt-ltb highest limit h) e }

  pub began_well : limit ≤ highest → s ≡ stored blank (fresh limit) → Began limit (record { answer = Ok tt; after = s })
  unfolding begun begin
  began_well h e = record { answers = rw (le-ltb highest limit h, when_pass); begins = rw (le-ltb highest limit h) e }
