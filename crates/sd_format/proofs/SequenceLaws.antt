-- Parts that are read from the front, one after the other: the laws that a loop uses, that what is read is what is laid out, where each part
-- starts, and what a cursor hands out. Once for options and entries. Assumes nothing.
use mathlib.Core.Path.{◌≡◌, refl, sym, ap, ◌∙◌, subst}
use mathlib.Core.Logic.{◌↔◌, ⊎_elim}
use mathlib.Core.List.{List, [], ◌∷◌, ◌++◌, append_assoc, map}
use Prim.Native.Nat.{ℕ, zero, suc, ◌+◌, ◌*◌, ◌-◌, ◌≤◌, ◌<◌, zero-le}
use native.Mathlib.Nat.{le_of_suc-le-suc, mul-suc, mul-zero}
use native.Mathlib.Numerals.{add-one}
use native.Mathlib.Omega.{arith}
use lib.ListN.{length, take, drop, get_or, length-append, length-drop}
use lib.Seq.{take_at, take-add, drop_at, drop-drop}
use borrow.Author.Tests.{le-leb, lt-leb}
use Rattle.numbers.specs.Refusals.{Refusal, moved, nothing_there}
use Rattle.numbers.specs.Answers.{Answer, accepted, refused, Verdict, pass, ◌>>=◌, ◌>>◌, further, given, All}
use Rattle.numbers.specs.Bytes.{Bytes}
use Rattle.numbers.proofs.ByteLaws.{bytes_drop}
use Rattle.numbers.proofs.AnswerLaws.{when_hit, when_pass, not_refused, accepted_inj, refused_inj, bind_accepted, bind_pass, bind_refused, then_accepted, then_pass, then_refused, further_accepted, further_refused}
use Rattle.sd_format.specs.Sequences.{all_from, all, next_at, behind, starts, total, each_from, counted, HandsOut, ended, gave, Stops, this_part, later_part, FirstRefused}
use Rattle.sd_format.specs.Layout.{lay_all}

drop_past : (n b : ℕ) (s : List ℕ) → 1 ≤ n → drop n (b ∷ s) ≡ drop (n - 1) s
drop_past zero b s h = absurd (omega arith)
drop_past (suc n) b s h = let e : n ≡ suc n - 1 = omega arith in ap (λ (k : ℕ). drop k s) e

-- ---- the laws that a loop uses, at the bytes that are left

module _ {A : Type 0} (read : List ℕ → Answer A) (size : A → ℕ) where
  -- bytes that are passed over do not matter
  pub all_skip : (s : List ℕ) (k : ℕ) → all_from read size s k ≡ all read size (drop k s)
  unfolding all_from
  all_skip [] zero = refl
  all_skip [] (suc k) = refl
  all_skip (b ∷ s) zero = refl
  all_skip (b ∷ s) (suc k) = all_skip s k

  pub all_end : (t : List ℕ) → length t ≡ 0 → all read size t ≡ accepted []
  unfolding all_from
  all_end [] h = refl
  all_end (b ∷ t) h = absurd (omega arith)

  pub all_stop : (t : List ℕ) (r : Refusal) → 1 ≤ length t → read t ≡ refused r → all read size t ≡ refused r
  unfolding all_from ◌>>=◌
  all_stop [] r h e = absurd (omega arith)
  all_stop (b ∷ t) r h e = rw e

  pub all_more : (t : List ℕ) (a : A) → 1 ≤ length t → 1 ≤ size a → read t ≡ accepted a
      → all read size t ≡ (all read size (drop (size a) t) >>= λ later. accepted (a ∷ later))
  unfolding all_from
  all_more [] a h some e = absurd (omega arith)
  all_more (b ∷ t) a h some e = bind_pass _ _ a e ∙ rw (drop_past (size a) b t some, all_skip t (size a - 1))

  -- ---- what an acceptance says

  -- each part takes `least` bytes or more, and no more than there are
  module _ (least : ℕ) (one : 1 ≤ least) (within : (t : List ℕ) (a : A) → read t ≡ accepted a → (least ≤ size a) × (size a ≤ length t)) where
    -- the bytes are the parts: none, or the first one and the others behind it
    pub all_none : (t : List ℕ) → all read size t ≡ accepted [] → length t ≡ 0
    unfolding all_from
    all_none [] e = refl
    all_none (b ∷ t) e =
        let (a, e1, e2) = bind_accepted _ _ _ e in
        let (later, e3, e4) = bind_accepted _ _ _ e2 in
        let z : ◌≡◌ {A = ℕ} 0 1 = cc in absurd (omega arith)

    first_of : (b : ℕ) (t : List ℕ) (x : A) (xs : List A) → read (b ∷ t) ≡ accepted x → all_from read size t (size x - 1) ≡ accepted xs
        → (a : A) (later : List A) → x ≡ a → xs ≡ later
        → (1 ≤ length (b ∷ t)) × (read (b ∷ t) ≡ accepted a) × (all read size (drop (size a) (b ∷ t)) ≡ accepted later)
    first_of b t x xs e1 e3 a later here there =
        let some : 1 ≤ size x = omega (arith, within (b ∷ t) x e1) in
        rw (← here, ← there) (omega arith, e1, rw (drop_past (size x) b t some) (sym (all_skip t (size x - 1)) ∙ e3))

    pub all_first : (t : List ℕ) (a : A) (later : List A) → all read size t ≡ accepted (a ∷ later)
        → (1 ≤ length t) × (read t ≡ accepted a) × (all read size (drop (size a) t) ≡ accepted later)
    unfolding all_from
    all_first [] a later e = let z : ◌≡◌ {A = ℕ} 0 1 = cc in absurd (omega arith)
    all_first (b ∷ t) a later e =
        let (x, e1, e2) = bind_accepted _ _ _ e in
        let (xs, e3, e4) = bind_accepted _ _ _ e2 in
        first_of b t x xs e1 e3 a later (cc) (cc)

    -- the first that is refused ends it
    stops_from : (s : List ℕ) (k : ℕ) (r : Refusal) → all_from read size s k ≡ refused r → Stops read size (drop k s) r
    unfolding all_from ◌>>=◌
    stops_from [] zero r e = not_refused r [] (sym e)
    stops_from [] (suc k) r e = not_refused r [] (sym e)
    stops_from (b ∷ s) (suc k) r e = stops_from s k r e
    stops_from (b ∷ s) zero r e = go (read (b ∷ s)) refl e (λ k. stops_from s k r)
      where
        go : (m : Answer A) → read (b ∷ s) ≡ m → (m >>= λ a. all_from read size s (size a - 1) >>= λ later. accepted (a ∷ later)) ≡ refused r
            → ((k : ℕ) → all_from read size s k ≡ refused r → Stops read size (drop k s) r) → Stops read size (b ∷ s) r
        go (accepted a) h e ih =
            let some : 1 ≤ size a = omega (arith, within (b ∷ s) a h) in
            later_part {s = b ∷ s} {r = r} (omega arith) h (rw (drop_past (size a) b s some) (ih (size a - 1) (bind_refused (all_from read size s (size a - 1)) (λ later. a ∷ later) r e)))
        go (refused q) h e ih = this_part {s = b ∷ s} (omega arith) (h ∙ ap refused (refused_inj {A = List A} q r e))

    all_stopped : {s : List ℕ} {r : Refusal} → Stops read size s r → all read size s ≡ refused r
    unfolding ◌>>=◌
    all_stopped (this_part {s} {r} some e) = all_stop s r some e
    all_stopped (later_part {s} {a} {r} some e later) = all_more s a some (omega (arith, within s a e)) e ∙ rw (all_stopped later)

    pub all_stops : (s : List ℕ) (r : Refusal) → (all read size s ≡ refused r) ↔ Stops read size s r
    all_stops s r = (stops_from s 0 r, all_stopped)

    -- how many there can be
    pub all_count : (t : List ℕ) (as' : List A) → all read size t ≡ accepted as' → least * length as' ≤ length t
    all_count t [] e = rw mul-zero zero-le
    all_count t (a ∷ later) e =
        let (some, first, rest) = all_first t a later e in
        let w = within t a first in
        let ih : least * length later ≤ length t - size a = rw length-drop at (all_count (drop (size a) t) later rest) in
        rw mul-suc (omega arith)

-- ---- what is read is what is laid out

module _ {A : Type 0} (read : List ℕ → Answer A) (size : A → ℕ) (lay : A → List ℕ) (Fits : A → Type 0)
    (laid : (a : A) (rest : List ℕ) → Fits a → read (lay a ++ rest) ≡ accepted a)
    (back : (s : List ℕ) (a : A) → Bytes s → read s ≡ accepted a → Fits a × (lay a ++ drop (size a) s ≡ s))
    (sized : (a : A) → Fits a → length (lay a) ≡ size a)
    (some : (a : A) → Fits a → 1 ≤ size a) where
  abbrev Laid : List A → List ℕ → Type 0
  Laid xs s = All Fits xs × (lay_all lay xs ≡ s)

  pub all_laid_read : (xs : List A) → All Fits xs → all read size (lay_all lay xs) ≡ accepted xs
  unfolding lay_all
  all_laid_read [] w = all_end read size [] refl
  all_laid_read (a ∷ xs) w =
      let long : 1 ≤ length (lay a ++ lay_all lay xs) = simp length-append (omega (arith, sized a w.0, some a w.0)) in
      all_more read size _ a long (some a w.0) (laid a (lay_all lay xs) w.0)
      ∙ bind_pass _ _ xs (rw (drop_at (lay a) (lay_all lay xs) (size a) (sized a w.0)) (all_laid_read xs w.1))

  none_laid : (xs : List A) → accepted [] ≡ accepted xs → Laid xs []
  unfolding lay_all
  none_laid xs e = subst (λ (l : List A). Laid l []) (accepted_inj [] xs e) (tt, refl)

  more_laid : (s : List ℕ) (a : A) (xs : List A) → Fits a × (lay a ++ drop (size a) s ≡ s) → Laid xs (drop (size a) s) → Laid (a ∷ xs) s
  unfolding lay_all
  more_laid s a xs w l = ((w.0, l.0), ap (λ (t : List ℕ). lay a ++ t) l.1 ∙ w.1)

  all_lay : (s : List ℕ) (k : ℕ) (xs : List A) → Bytes s → all_from read size s k ≡ accepted xs → Laid xs (drop k s)
  unfolding all_from
  all_lay [] zero xs b e = none_laid xs e
  all_lay [] (suc k) xs b e = none_laid xs e
  all_lay (x ∷ s) (suc k) xs b e = all_lay s k xs (λ i. b (suc i)) e
  all_lay (x ∷ s) zero xs b e =
      let (a, e1, e2) = bind_accepted _ _ _ e in
      let (later, e3, e4) = bind_accepted _ _ _ e2 in
      let w = back (x ∷ s) a b e1 in
      let l : Laid later (drop (size a) (x ∷ s)) = rw (drop_past (size a) x s (some a w.0)) (all_lay s (size a - 1) later (λ i. b (suc i)) e3) in
      subst (λ (l : List A). Laid l (x ∷ s)) (accepted_inj (a ∷ later) xs e4) (more_laid (x ∷ s) a later w l)

  pub all_exact : (s : List ℕ) → Bytes s → (xs : List A) → (all read size s ≡ accepted xs) ↔ (All Fits xs × (lay_all lay xs ≡ s))
  all_exact s b xs = (all_lay s 0 xs b, (λ h. rw (← h.1) (all_laid_read xs h.0)))

  -- ---- where the reading of all stops: the parts in front are laid out, and the reading of one behind them is refused

  abbrev StoppedAt : List ℕ → Refusal → Type 0
  StoppedAt t r = (xs : List A) × (p : ℕ) × Laid xs (take p t) × (p < length t) × (read (drop p t) ≡ refused r)

  stopped_later : (t : List ℕ) (a : A) (r : Refusal) → Fits a × (lay a ++ drop (size a) t ≡ t) → StoppedAt (drop (size a) t) r → StoppedAt t r
  unfolding lay_all
  stopped_later t a r w (xs, p, l, more, e) =
      let front : take (size a) t ≡ lay a = ap (take (size a)) (sym w.1) ∙ take_at (lay a) (drop (size a) t) (size a) (sized a w.0) in
      let left : p < length t - size a = rw length-drop at more in
      (a ∷ xs, size a + p, ((w.0, l.0), rw (l.1, take-add (size a) p t, front)), omega arith, rw (← (drop-drop p (size a) t)) e)

  pub stopped_at : {t : List ℕ} {r : Refusal} → Bytes t → Stops read size t r → StoppedAt t r
  unfolding lay_all
  stopped_at b (this_part {s} {r} some e) = ([], 0, (tt, refl), some, e)
  stopped_at b (later_part {s} {a} {r} some e later) = stopped_later s a r (back s a b e) (stopped_at (bytes_drop s (size a) b) later)

  -- and back
  pub all_refuses : (xs : List A) (t : List ℕ) (r : Refusal) → All Fits xs → 1 ≤ length t → read t ≡ refused r → all read size (lay_all lay xs ++ t) ≡ refused r
  unfolding lay_all ◌>>=◌
  all_refuses [] t r w more e = all_stop read size t r more e
  all_refuses (a ∷ xs) t r w more e =
      let long : 1 ≤ length (lay a ++ (lay_all lay xs ++ t)) = simp length-append (omega (arith, sized a w.0, some a w.0)) in
      ap (all read size) (append_assoc (lay a) (lay_all lay xs) t)
      ∙ all_more read size _ a long (some a w.0) (laid a (lay_all lay xs ++ t) w.0)
      ∙ rw (drop_at (lay a) (lay_all lay xs ++ t) (size a) (sized a w.0), all_refuses xs t r w.1 more e)

-- ---- a test of each

-- the tests pass exactly when each passes
module _ {A : Type 0} (size : A → ℕ) (test : A → Verdict) (P : A → Type 0) (fits : (a : A) → (test a ≡ pass) ↔ P a) where
  pub each_from_pass : (at : ℕ) (xs : List A) → (each_from size test at xs ≡ pass) ↔ All P xs
  unfolding each_from
  each_from_pass at [] = ((λ e. tt), (λ h. refl))
  each_from_pass at (a ∷ xs) =
      let later = each_from_pass (at + size a) xs in
      let here = further_accepted at (test a) tt in (
        (λ e. let w = then_accepted _ _ _ e in ((fits a).0 (here.0 w.0), later.0 w.1)),
        (λ h. then_pass _ _ (here.1 ((fits a).1 h.0)) ∙ later.1 h.1),
      )

-- which one is refused, and where it starts
module _ {A : Type 0} (size : A → ℕ) (test : A → Verdict) where
  first_refused : (at : ℕ) (xs : List A) (r : Refusal) → each_from size test at xs ≡ refused r → FirstRefused size test at xs r
  unfolding each_from total
  first_refused at [] r e = not_refused r tt (sym e)
  first_refused at (a ∷ xs) r e =
      ⊎_elim
      (λ stop.
      let (q, refuses, there) = further_refused at (test a) r stop in
      let none : at + 0 ≡ at = omega arith in
      record { before = []; one = a; behind = xs; alone = q; among = refl; passed = tt; refused_there = refuses; place = rw none there })
      (λ (pass-here, later).
      let w = first_refused (at + size a) xs r later in
      let far : at + (size a + total size w.before) ≡ at + size a + total size w.before = omega arith in
      record {
        before = a ∷ w.before;
        one = w.one;
        behind = w.behind;
        alone = w.alone;
        among = ap (λ (l : List A). a ∷ l) w.among;
        passed = ((further_accepted at (test a) tt).0 pass-here, w.passed);
        refused_there = w.refused_there;
        place = rw far w.place;
      })
      (then_refused _ _ r e)

  refused_first : (at : ℕ) (before : List A) (a : A) (behind : List A) (q : Refusal) → All (λ x. test x ≡ pass) before → test a ≡ refused q
      → each_from size test at (before ++ (a ∷ behind)) ≡ refused (moved (at + total size before) q)
  unfolding each_from total further ◌>>◌
  refused_first at [] a behind q w e = let none : at + 0 ≡ at = omega arith in rw (e, none)
  refused_first at (x ∷ before) a behind q w e =
      let far : at + size x + total size before ≡ at + (size x + total size before) = omega arith in
      then_pass _ _ ((further_accepted at (test x) tt).1 w.0) ∙ refused_first (at + size x) before a behind q w.1 e
      ∙ ap (λ (n : ℕ). refused (moved n q)) far

  pub each_refused : (at : ℕ) (xs : List A) (r : Refusal) → (each_from size test at xs ≡ refused r) ↔ FirstRefused size test at xs r
  each_refused at xs r = (
    first_refused at xs r,
    (λ w. rw w.among (refused_first at w.before w.one w.behind w.alone w.passed w.refused_there ∙ ap refused w.place)),
  )

-- ---- layouts, one after the other

pub lay_append : {A : Type 0} (lay : A → List ℕ) (xs ys : List A) → lay_all lay (xs ++ ys) ≡ lay_all lay xs ++ lay_all lay ys
unfolding lay_all
lay_append lay [] ys = refl
lay_append lay (x ∷ xs) ys = rw (lay_append lay xs ys) (sym (append_assoc (lay x) (lay_all lay xs) (lay_all lay ys)))

pub lay_length : {A : Type 0} (lay : A → List ℕ) (size : A → ℕ) → ((a : A) → length (lay a) ≡ size a) → (xs : List A) → length (lay_all lay xs) ≡ total size xs
unfolding lay_all total
lay_length lay size sized [] = refl
lay_length lay size sized (x ∷ xs) = length-append (lay x) (lay_all lay xs) ∙ rw (sized x, lay_length lay size sized xs) refl

-- ---- counting

pub counted_past : {A : Type 0} (xs : List A) (k : ℕ) → length xs ≤ k → counted xs k ≡ refused nothing_there
unfolding counted
counted_past [] k h = refl
counted_past (x ∷ xs) zero h = absurd (omega arith)
counted_past (x ∷ xs) (suc k) h = counted_past xs k (le_of_suc-le-suc h)

pub counted_in : {A : Type 0} (xs : List A) (k : ℕ) → k < length xs → (x : A) × (counted xs k ≡ accepted x)
unfolding counted
counted_in [] k h = absurd (omega arith)
counted_in (x ∷ xs) zero h = (x, refl)
counted_in (x ∷ xs) (suc k) h = counted_in xs k (le_of_suc-le-suc h)

pub counted_drop : {A : Type 0} (xs : List A) (k : ℕ) (x : A) → counted xs k ≡ accepted x → drop k xs ≡ x ∷ drop (k + 1) xs
unfolding counted
counted_drop [] k x e = not_refused _ x e
counted_drop (y ∷ xs) zero x e = rw (accepted_inj y x e)
counted_drop (y ∷ xs) (suc k) x e = rw add-one (rw add-one at (counted_drop xs k x e))

pub counted_map : {A B : Type 0} (f : A → B) (xs : List A) (k : ℕ) → counted (map f xs) k ≡ given f (counted xs k)
unfolding counted given
counted_map f [] k = refl
counted_map f (x ∷ xs) zero = refl
counted_map f (x ∷ xs) (suc k) = counted_map f xs k

-- ---- where each part starts

pub length_starts : {A : Type 0} (size : A → ℕ) (at : ℕ) (xs : List A) → length (starts size at xs) ≡ length xs
unfolding starts
length_starts size at [] = refl
length_starts size at (x ∷ xs) = ap suc (length_starts size (at + size x) xs)

module _ {A : Type 0} (read : List ℕ → Answer A) (size : A → ℕ)
    (least : ℕ) (one : 1 ≤ least) (within : (t : List ℕ) (a : A) → read t ≡ accepted a → (least ≤ size a) × (size a ≤ length t)) where
  -- where the k-th part starts, the k-th part is read
  pub read_start : (s : List ℕ) (at : ℕ) (xs : List A) (k : ℕ) (x : A) → all read size (drop at s) ≡ accepted xs → counted xs k ≡ accepted x
      → read (drop (get_or (starts size at xs) k 0) s) ≡ accepted x
  unfolding counted starts
  read_start s at [] k x e c = not_refused _ x c
  read_start s at (a ∷ xs) zero x e c = (all_first read size least one within _ a xs e).1 ∙ c
  read_start s at (a ∷ xs) (suc k) x e c =
      read_start s (at + size a) xs k x (rw (drop-drop (size a) at s) at (all_first read size least one within _ a xs e).2) c

  -- a cursor that reads no more strictly hands out the same parts
  pub cursor_hands : (other : List ℕ → Answer A) → ((t : List ℕ) (a : A) → read t ≡ accepted a → other t ≡ accepted a)
      → (s : List ℕ) (at : ℕ) (xs : List A) → all read size (drop at s) ≡ accepted xs → HandsOut (next_at other s) (behind size) at xs
  unfolding next_at
  cursor_hands other weaker s at [] e =
      let none : length s - at ≡ 0 = rw length-drop at (all_none read size least one within _ e) in
      ended (when_hit _ _ _ (le-leb (length s) at (omega arith)))
  cursor_hands other weaker s at (a ∷ xs) e =
      let (some, first, rest) = all_first read size least one within _ a xs e in
      let left : 1 ≤ length s - at = rw length-drop at some in
      gave (when_pass _ _ _ (lt-leb (length s) at (omega arith)) ∙ weaker _ a first)
      (cursor_hands other weaker s (at + size a) xs (rw (drop-drop (size a) at s) at rest))
