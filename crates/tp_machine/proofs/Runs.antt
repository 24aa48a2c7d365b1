-- What every run of the machine keeps: it is what its accepted segments make of it, one after the other. Assumes nothing.
use Rattle.std.specs.Prelude.{Option, Some, None, ℕ}
use Prim.Native.Nat.{ℕ, ◌+◌, ◌≤◌, ◌<◌, min, max}
use mathlib.Core.Path.{◌≡◌, refl, sym, ap, subst, ◌∙◌}
use mathlib.Core.Bool.{Bool, true, false, ◌||◌, not, cond, or_assoc, or-false}
use mathlib.Core.List.{List, [], ◌∷◌, ◌++◌, append_assoc, append-nil}
use mathlib.Core.Logic.{◌⊎◌, inl, inr}
use native.Mathlib.Omega.{arith}
use borrow.Author.Tests.{leb-true, leb-false}
use lib.Dec.{leb}
use lib.ListN.{length, get_or, length-append}
use Rattle.numbers.specs.Answers.{accepted, refused, Verdict, pass, All}
use Rattle.numbers.proofs.AnswerLaws.{all_map}
use Rattle.tp_machine.specs.declared.TpRange.{TpRange}
use Rattle.tp_machine.specs.Lists.{OneOf}
use Rattle.tp_machine.specs.Segments.{offset, more, end_of, header, written}
use Rattle.tp_machine.specs.Ranges.{any, hull_of, joined}
use Rattle.tp_machine.specs.Machine.{State, taken, judged, Out, begin, opened, fed}
use Rattle.tp_machine.specs.Meaning.{range_of, Good, Accepted}
use Rattle.tp_machine.specs.Runs.{Has, Made, Lies, Numbered, if_accepted, admitted, holds, covered, spans, brought, heads, final, Ended, Filled}
use Rattle.tp_machine.specs.Theorems.{EveryRun}
use Rattle.numbers.proofs.TestLaws.{or_swap}
use Rattle.tp_machine.proofs.Lists.{each_one, latest_of, newest, newest_none, newest_latest}
use Rattle.tp_machine.proofs.Joining.{all_joined, new_lies, still_lies, joining_covers, at_zero, joined_at_zero}
use Rattle.tp_machine.proofs.Tests.{accepted_means, taken_good}
use Rattle.tp_machine.proofs.Steps.{step_accepted, step_refused, begin_good}
use Rattle.tp_machine.proofs.Numbers.{taken_numbered}
use Rattle.tp_machine.proofs.Writing.{written_length, written_head, written_at}

-- ---- what accepted segments make of a state and of a buffer
unfoldable pub taken_all : State → List (List ℕ) → State
taken_all p [] = p
taken_all p (s ∷ ss) = taken_all (taken p s) ss

unfoldable pub written_all : List ℕ → List (List ℕ) → List ℕ
written_all b [] = b
written_all b (s ∷ ss) = written_all (written b s) ss

-- each of them is accepted there
abbrev pub Chain : State → ℕ → List (List ℕ) → Type 0
Chain p room [] = Unit {0}
Chain p room (s ∷ ss) = Accepted p s room × Chain (taken p s) room ss

-- from state p and buffer b these segments, each accepted, lead to state q and buffer c
pub record Leads (p : State) (b : List ℕ) (segs : List (List ℕ)) (q : State) (c : List ℕ) : Type 0 where
  pub chain : Chain p (length b) segs
  pub state : q ≡ taken_all p segs
  pub buffer : c ≡ written_all b segs

-- a run is what its accepted segments make of it
abbrev Ran : Out → List (List ℕ) → Type 0
Ran o ss = Leads o.state o.buffer (admitted o ss) (fed o ss).state (fed o ss).buffer

-- a segment came, the step left x, and from there the run goes on
abbrev Goes : State → List ℕ → List ℕ → List (List ℕ) → Out → Type 0
Goes p b s ss x = Leads p b (if_accepted x.answer s (admitted x ss)) (fed x ss).state (fed x ss).buffer

-- one more segment in front
one_more : (p : State) (b s : List ℕ) (segs : List (List ℕ)) (q : State) (c : List ℕ) → Accepted p s (length b) → Leads (taken p s) (written b s) segs q c → Leads p b (s ∷ segs) q c
unfolding taken_all written_all
one_more p b s segs q c t k = record { chain = (t, rw (written_length b s t.segment.long t.fits) at k.chain); state = k.state; buffer = k.buffer }

pub ran : (o : Out) (ss : List (List ℕ)) → Ran o ss
unfolding fed admitted taken_all written_all
ran o [] = record { chain = tt; state = refl; buffer = refl }
ran o (s ∷ ss) = go (λ x. ran x ss) (judged o.state s (length o.buffer)) refl
  where
    go : ((x : Out) → Ran x ss) → (v : Verdict) → judged o.state s (length o.buffer) ≡ v → Ran o (s ∷ ss)
    go later (accepted u) e =
        let x : Out = record { answer = pass; state = taken o.state s; buffer = written o.buffer s } in
        let k = one_more o.state o.buffer s (admitted x ss) (fed x ss).state (fed x ss).buffer ((accepted_means o.state s (length o.buffer)).0 e) (later x) in
        subst (Goes o.state o.buffer s ss) (sym (step_accepted o.state s o.buffer u e)) k
    go later (refused r) e =
        let x : Out = record { answer = refused r; state = o.state; buffer = o.buffer } in
        subst (Goes o.state o.buffer s ss) (sym (step_refused o.state s o.buffer r e)) (later x)

-- ---- which places are covered, whether a range begins at 0, which end is known
-- (f tests a range, g a segment as f tests its range, whatever its number)
module _ (f : TpRange → Bool) (g : List ℕ → Bool) (same : (number : ℕ) (s : List ℕ) → f (range_of number s) ≡ g s) (one : (n : TpRange) (rs : List TpRange) → any f (joined n rs) ≡ (f n || any f rs)) where
  any_taken : (p : State) (ss : List (List ℕ)) → any f (taken_all p ss).ranges ≡ (any g ss || any f p.ranges)
  unfolding taken_all any
  any_taken p [] = refl
  any_taken p (s ∷ ss) =
      any_taken (taken p s) ss ∙ ap (◌||◌ (any g ss)) (one (range_of (p.count + 1) s) p.ranges ∙ ap (λ (t : Bool). t || any f p.ranges) (same (p.count + 1) s))
      ∙ or_swap (any g ss) (g s) (any f p.ranges) ∙ sym (or_assoc (g s) (any g ss) (any f p.ranges))

pub all_covers : (x : ℕ) (p : State) (ss : List (List ℕ)) → covered (taken_all p ss).ranges x ≡ (any (spans x) ss || covered p.ranges x)
unfolding holds
all_covers x = any_taken (holds x) (spans x) (λ number s. refl) (λ n rs. joining_covers n rs x)

pub all_heads : (p : State) (ss : List (List ℕ)) → any at_zero (taken_all p ss).ranges ≡ (any heads ss || any at_zero p.ranges)
all_heads = any_taken at_zero heads (λ number s. refl) joined_at_zero

end_after : (m : Bool) (e k : Option ℕ) → cond m e k ≡ cond (not m) k e
end_after true e k = refl
end_after false e k = refl

pub all_end : (p : State) (ss : List (List ℕ)) → (taken_all p ss).end ≡ newest final (λ s. Some (end_of s)) p.end ss
unfolding taken_all newest
all_end p [] = refl
all_end p (s ∷ ss) = all_end (taken p s) ss ∙ ap (λ (e : Option ℕ). newest final (λ t. Some (end_of t)) e ss) (end_after (more s) p.end (Some (end_of s)))

pub all_limit : (p : State) (ss : List (List ℕ)) → (taken_all p ss).limit ≡ p.limit
unfolding taken_all
all_limit p [] = refl
all_limit p (s ∷ ss) = all_limit (taken p s) ss

-- ---- what each segment's range has, and hulls keep, each range has
pub all_each : (P : TpRange → Type 0) → ((g r : TpRange) → P g → P r → P (hull_of g r)) → (p : State) (ss : List (List ℕ)) → All (λ s. (number : ℕ) → P (range_of number s)) ss → All P p.ranges → All P (taken_all p ss).ranges
unfolding taken_all
all_each P f p [] a e = e
all_each P f p (s ∷ ss) a e = all_each P f (taken p s) ss a.1 (all_joined P (range_of (p.count + 1) s) f p.ranges (a.0 (p.count + 1)) e)

pub chain_good : (p : State) (room : ℕ) (ss : List (List ℕ)) → Chain p room ss → Good p → Good (taken_all p ss)
unfolding taken_all
chain_good p room [] h g = g
chain_good p room (s ∷ ss) h g = chain_good (taken p s) room ss h.1 (taken_good p s room h.0)

-- what an accepted segment has, each of them has
pub chain_each : (P : List ℕ → Type 0) (room : ℕ) → ((p : State) (s : List ℕ) → Accepted p s room → P s) → (p : State) (ss : List (List ℕ)) → Chain p room ss → All P ss
chain_each P room f p [] h = tt
chain_each P room f p (s ∷ ss) h = (f p s h.0, chain_each P room f (taken p s) ss h.1)

-- each of them is a segment of at least 20 bytes that fits
abbrev pub Fits : ℕ → List ℕ → Type 0
Fits room s = (20 ≤ length s) × (16 + end_of s ≤ room)

pub chain_fits : (p : State) (room : ℕ) (ss : List (List ℕ)) → Chain p room ss → All (Fits room) ss
chain_fits p room = chain_each (Fits room) room (λ q s a. (a.segment.long, a.fits)) p

-- ---- each range is made by two of the segments, and each segment lies in a range
module _ (place : List ℕ → ℕ) (segs : List (List ℕ)) (x y : ℕ) (a : Has place segs x) (b : Has place segs y) where
  either : (z : ℕ) → (x ≡ z) ⊎ (y ≡ z) → Has place segs z
  either z (inl e) = subst (Has place segs) e a
  either z (inr e) = subst (Has place segs) e b

  has_least : Has place segs (min x y)
  has_least = either (min x y) (go (leb x y) refl)
    where
      go : (t : Bool) → leb x y ≡ t → (x ≡ min x y) ⊎ (y ≡ min x y)
      go true p = inl (omega (arith, leb-true x y p))
      go false p = inr (omega (arith, leb-false x y p))

  has_greatest : Has place segs (max x y)
  has_greatest = either (max x y) (go (leb x y) refl)
    where
      go : (t : Bool) → leb x y ≡ t → (x ≡ max x y) ⊎ (y ≡ max x y)
      go true p = inr (omega (arith, leb-true x y p))
      go false p = inl (omega (arith, leb-false x y p))

hull_made : (segs : List (List ℕ)) (g r : TpRange) → Made segs g → Made segs r → Made segs (hull_of g r)
unfolding hull_of
hull_made segs g r a b = record {
  begins_at = has_least offset segs g.start r.start a.begins_at b.begins_at;
  ends_at = has_greatest end_of segs g.end r.end a.ends_at b.ends_at;
}

all_made : (segs : List (List ℕ)) (p : State) → p.ranges ≡ [] → All (Made segs) (taken_all p segs).ranges
all_made segs p e =
    all_each (Made segs) (hull_made segs) p segs
    (all_map (λ s. OneOf s segs) (λ s. (number : ℕ) → Made segs (range_of number s)) (λ s o number. record { begins_at = record { segment = s; among = o; there = refl }; ends_at = record { segment = s; among = o; there = refl } }) segs (each_one segs)) (rw e tt)

stays : (s : List ℕ) (p : State) (ss : List (List ℕ)) → Lies p.ranges s → Lies (taken_all p ss).ranges s
unfolding taken_all
stays s p [] h = h
stays s p (t ∷ ss) h = stays s (taken p t) ss (still_lies s (range_of (p.count + 1) t) p.ranges h)

all_lie : (p : State) (ss : List (List ℕ)) → All (Lies (taken_all p ss).ranges) ss
unfolding taken_all
all_lie p [] = tt
all_lie p (s ∷ ss) = (stays s (taken p s) ss (new_lies (p.count + 1) s p.ranges), all_lie (taken p s) ss)

-- ---- how many there are, and of each range which of them came last
all_count : (p : State) (ss : List (List ℕ)) → (taken_all p ss).count ≡ p.count + length ss
unfolding taken_all
all_count p [] = omega arith
all_count p (s ∷ ss) = omega (arith, all_count (taken p s) ss)

-- (they come behind others)
all_numbered : (p : State) (room : ℕ) (before ss : List (List ℕ)) → Chain p room ss → p.count ≡ length before → All (Numbered before) p.ranges → All (Numbered (before ++ ss)) (taken_all p ss).ranges
unfolding taken_all
all_numbered p room before [] h c n = rw (append-nil before) n
all_numbered p room before (s ∷ ss) h c n =
    let one : length (before ++ (s ∷ [])) ≡ length before + 1 = length-append before (s ∷ []) in
    subst (λ (segs : List (List ℕ)). All (Numbered segs) (taken_all (taken p s) ss).ranges) (append_assoc before (s ∷ []) ss)
    (all_numbered (taken p s) room (before ++ (s ∷ [])) ss h.1 (omega arith) (taken_numbered p s h.0.good before c n))

-- ---- the newest bytes: place i of a buffer, of which a segment s gives it what it gives exactly when a test passes
pub all_length : (b : List ℕ) (ss : List (List ℕ)) → All (Fits (length b)) ss → length (written_all b ss) ≡ length b
unfolding written_all
all_length b [] a = refl
all_length b (s ∷ ss) a =
    let e = written_length b s a.0.0 a.0.1 in
    all_length (written b s) ss (rw e a.1) ∙ e

module _ (i : ℕ) (test : List ℕ → Bool) (gives : List ℕ → ℕ) (one : (b s : List ℕ) → Fits (length b) s → get_or (written b s) i 0 ≡ cond (test s) (gives s) (get_or b i 0)) where
  pub all_newest : (b : List ℕ) (ss : List (List ℕ)) → All (Fits (length b)) ss → get_or (written_all b ss) i 0 ≡ newest test gives (get_or b i 0) ss
  unfolding written_all newest
  all_newest b [] a = refl
  all_newest b (s ∷ ss) a = all_newest (written b s) ss (rw (written_length b s a.0.0 a.0.1) a.1) ∙ ap (λ (v : ℕ). newest test gives v ss) (one b s a.0)

pub newest_byte : (x : ℕ) (b : List ℕ) (ss : List (List ℕ)) → All (Fits (length b)) ss → get_or (written_all b ss) (16 + x) 0 ≡ newest (spans x) (brought x) (get_or b (16 + x) 0) ss
newest_byte x = all_newest (16 + x) (spans x) (brought x) (λ b s f. written_at b s f.0 f.1 x)

pub newest_header : (i : ℕ) → i < 16 → (b : List ℕ) (ss : List (List ℕ)) → All (Fits (length b)) ss → get_or (written_all b ss) i 0 ≡ newest heads (λ s. get_or (header s) i 0) (get_or b i 0) ss
newest_header i h = all_newest i heads (λ s. get_or (header s) i 0) (λ b s f. written_head b s f.0 f.1 i h)

-- ---- the theorem
ended : (p : State) (ss : List (List ℕ)) → p.end ≡ None → Ended ss (taken_all p ss).end
ended p ss e = record {
  by = λ s l. all_end p ss ∙ newest_latest final (λ t. Some (end_of t)) p.end ss s l;
  by_none = λ h. all_end p ss ∙ newest_none final (λ t. Some (end_of t)) p.end ss h ∙ e;
}

filled : (b : List ℕ) (ss : List (List ℕ)) → All (Fits (length b)) ss → Filled b ss (written_all b ss)
filled b ss a = record {
  size = all_length b ss a;
  covers = λ x s l. newest_byte x b ss a ∙ newest_latest (spans x) (brought x) (get_or b (16 + x) 0) ss s l;
  others = λ x h. newest_byte x b ss a ∙ newest_none (spans x) (brought x) (get_or b (16 + x) 0) ss h;
  headed = λ i h s l. newest_header i h b ss a ∙ newest_latest heads (λ t. get_or (header t) i 0) (get_or b i 0) ss s l;
  unheaded = λ i h e. newest_header i h b ss a ∙ newest_none heads (λ t. get_or (header t) i 0) (get_or b i 0) ss e;
}

pub every_run : EveryRun
unfolding begin any
every_run limit buf ss =
    let k = ran (opened limit buf) ss in
    let segs : List (List ℕ) = admitted (opened limit buf) ss in
    let covers : (x : ℕ) → covered (fed (opened limit buf) ss).state.ranges x ≡ any (spans x) segs =
    λ x. ap (λ (p : State). covered p.ranges x) k.state ∙ all_covers x (begin limit) segs ∙ or-false (any (spans x) segs) in
    let fill : Filled buf segs (fed (opened limit buf) ss).buffer = rw k.buffer (filled buf segs (chain_fits (begin limit) (length buf) segs k.chain)) in
    record {
      good = rw k.state (chain_good (begin limit) (length buf) segs k.chain (begin_good limit));
      limit_stays = ap (λ (p : State). p.limit) k.state ∙ all_limit (begin limit) segs;
      covers = covers;
      made = rw k.state (all_made segs (begin limit) refl);
      lie = rw k.state (all_lie (begin limit) segs);
      counted = ap (λ (p : State). p.count) k.state ∙ all_count (begin limit) segs ∙ omega arith;
      numbered = rw k.state (all_numbered (begin limit) (length buf) [] segs k.chain refl tt);
      ended = rw k.state (ended (begin limit) segs refl);
      filled = fill;
      under = λ x h. let w = latest_of (spans x) segs (sym (covers x) ∙ h) in (w.0, w.1, fill.covers x w.0 w.1);
      elsewhere = λ x h. fill.others x (sym (covers x) ∙ h);
    }
