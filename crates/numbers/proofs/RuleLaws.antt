-- Which answers follow which rules: line by line, as the definitions are written. Assumes nothing.
use mathlib.Core.Path.{◌≡◌, refl, sym, ap, subst}
use mathlib.Core.Bool.{Bool, true, false, false≢true}
use mathlib.Core.Logic.{◌↔◌, ◌≢◌, ◌⊎◌, inl, inr, ⊎_elim}
use Rattle.numbers.specs.Refusals.{Refusal}
use Rattle.numbers.specs.Answers.{Answer, accepted, refused, Verdict, pass, ◌>>=◌, ◌>>◌, refuse◌when◌else◌, given}
use Rattle.numbers.specs.Rules.{Rules, accept, ◌if◌else◌, part◌else◌, ◌then◌, Refuses, Accepts, Follows}
use Rattle.numbers.proofs.AnswerLaws.{not_refused, refused_inj, given_refused}

-- ---- rules behind rules

then_refuses : (rules later : Rules) (r : Refusal) → Refuses (rules then later) r ↔ (Refuses rules r ⊎ (Accepts rules × Refuses later r))
then_refuses accept later r = ((λ h. inr (tt, h)), (λ h. ⊎_elim (λ n. absurd n) (λ w. w.1) h))
then_refuses (q if P else rules) later r =
    let ih = then_refuses rules later r in (
      (λ h. ⊎_elim (λ here. inl (inl here)) (λ w. ⊎_elim (λ x. inl (inr (w.0, x))) (λ x. inr ((w.0, x.0), x.1)) (ih.0 w.1)) h),
      (λ h. ⊎_elim (λ x. ⊎_elim (λ here. inl here) (λ w. inr (w.0, ih.1 (inl w.1))) x) (λ w. inr (w.0.0, ih.1 (inr (w.0.1, w.1)))) h),
    )
then_refuses (part P else rules) later r =
    let ih = then_refuses rules later r in (
      (λ h. ⊎_elim (λ here. inl (inl here)) (λ w. ⊎_elim (λ x. inl (inr (w.0, x))) (λ x. inr ((w.0, x.0), x.1)) (ih.0 w.1)) h),
      (λ h. ⊎_elim (λ x. ⊎_elim (λ here. inl here) (λ w. inr (w.0, ih.1 (inl w.1))) x) (λ w. inr (w.0.0, ih.1 (inr (w.0.1, w.1)))) h),
    )

then_accepts : (rules later : Rules) → Accepts (rules then later) ↔ (Accepts rules × Accepts later)
then_accepts accept later = ((λ h. (tt, h)), (λ h. h.1))
then_accepts (q if P else rules) later =
    let ih = then_accepts rules later in
    ((λ h. let w = ih.0 h.1 in ((h.0, w.0), w.1)), (λ h. (h.0.0, ih.1 (h.0.1, h.1))))
then_accepts (part P else rules) later =
    let ih = then_accepts rules later in
    ((λ h. let w = ih.0 h.1 in ((h.0, w.0), w.1)), (λ h. (h.0.0, ih.1 (h.0.1, h.1))))

-- ---- the lines of a definition

pub follows_accepted : {A : Type 0} (x : A) → Follows (accepted x) accept
follows_accepted x = record { refuses = λ r. ((λ e. not_refused r x (sym e)), (λ n. absurd n)); accepts = ((λ e. tt), (λ h. (x, refl))) }

pub follows_refused : {A : Type 0} (q : Refusal) (later : Rules) (P : Type 0) → P → Follows {A = A} (refused q) (q if P else later)
follows_refused {A} q later P h = record {
  refuses = λ r. ((λ e. inl (h, refused_inj {A = A} q r e)), (λ w. ⊎_elim (λ here. ap refused here.1) (λ x. absurd (x.0 h)) w));
  accepts = ((λ e. not_refused q e.0 e.1), (λ w. absurd (w.0 h)));
}

-- a line whose condition does not hold
pub follows_passed : {A : Type 0} (q : Refusal) (P : Type 0) (a : Answer A) (later : Rules) → ¬ P → Follows a later → Follows a (q if P else later)
follows_passed q P a later n f = record {
  refuses = λ r. ((λ e. inr (n, (f.refuses r).0 e)), (λ w. ⊎_elim (λ here. absurd (n here.0)) (λ x. (f.refuses r).1 x.1) w));
  accepts = ((λ e. (n, f.accepts.0 e)), (λ w. f.accepts.1 w.1));
}

pub follows_if : {A : Type 0} {a : Answer A} {later : Rules} {P : Type 0} (q : Refusal) (b : Bool) → ((b ≡ true) ↔ P) → Follows a later
    → Follows (refuse q when b else a) (q if P else later)
unfolding refuse◌when◌else◌
follows_if {later} {P} q true means f = follows_refused q later P (means.0 refl)
follows_if {a} {later} {P} q false means f = follows_passed q P a later (λ h. absurd (false≢true (means.1 h))) f

-- the same for a rule whose values are told with its condition
pub follows_when : {A : Type 0} {a : Answer A} {later : Rules} (q : Refusal) (b : Bool) (P : Refusal → Type 0) → ((r : Refusal) → P r ↔ ((b ≡ true) × (q ≡ r)))
    → Follows a later → Follows (refuse q when b else a) (part P else later)
unfolding refuse◌when◌else◌
follows_when {A} q true P says f = record {
  refuses = λ r. ((λ e. inl ((says r).1 (refl, refused_inj {A = A} q r e))), (λ w. ⊎_elim (λ h. ap refused ((says r).0 h).1) (λ n. absurd (n.0 q ((says q).1 (refl, refl)))) w));
  accepts = ((λ e. not_refused q e.0 e.1), (λ w. absurd (w.0 q ((says q).1 (refl, refl)))));
}
follows_when q false P says f =
    let never : (r : Refusal) → P r → ⊥ = λ r h. false≢true ((says r).0 h).0 in
    record {
      refuses = λ r. ((λ e. inr (never, (f.refuses r).0 e)), (λ w. ⊎_elim (λ h. absurd (never r h)) (λ n. (f.refuses r).1 n.1) w));
      accepts = ((λ e. (never, f.accepts.0 e)), (λ w. f.accepts.1 w.1));
    }

-- a part, and what comes behind it
module _ {A B : Type 0} (m : Answer A) (f : A → Answer B) where
  pub follows_bind : (rules later : Rules) → Follows m rules → ((x : A) → m ≡ accepted x → Follows (f x) later) → Follows (m >>= f) (rules then later)
  unfolding ◌>>=◌
  follows_bind rules later first next = go m first next
    where
      go : (k : Answer A) → Follows k rules → ((x : A) → k ≡ accepted x → Follows (f x) later) → Follows (k >>= f) (rules then later)
      go (accepted x) one two =
          let here = one.accepts.0 (x, refl) in
          let behind = two x refl in
          record {
            refuses = λ r. (
              (λ e. (then_refuses rules later r).1 (inr (here, (behind.refuses r).0 e))),
              (λ w. ⊎_elim (λ n. not_refused r x (sym ((one.refuses r).1 n))) (λ v. (behind.refuses r).1 v.1) ((then_refuses rules later r).0 w)),
            );
            accepts = ((λ e. (then_accepts rules later).1 (here, behind.accepts.0 e)), (λ w. behind.accepts.1 ((then_accepts rules later).0 w).1));
          }
      go (refused q) one two =
          let here = (one.refuses q).0 refl in
          let never : Accepts rules → ⊥ = λ w. not_refused q (one.accepts.1 w).0 (one.accepts.1 w).1 in
          record {
            refuses = λ r. (
              (λ e. (then_refuses rules later r).1 (inl ((one.refuses r).0 (ap refused (refused_inj {A = B} q r e))))),
              (λ w. ⊎_elim (λ n. ap refused (refused_inj {A = A} q r ((one.refuses r).1 n))) (λ v. absurd (never v.0)) ((then_refuses rules later r).0 w)),
            );
            accepts = ((λ e. not_refused q e.0 e.1), (λ w. absurd (never ((then_accepts rules later).0 w).0)));
          }

-- the same where only the verdict of the first part counts
verdict_first : {B : Type 0} (v : Verdict) (a : Answer B) → (v >> a) ≡ (v >>= λ u. a)
unfolding ◌>>◌ ◌>>=◌
verdict_first (accepted u) a = refl
verdict_first (refused r) a = refl

pub follows_after : {B : Type 0} (v : Verdict) (a : Answer B) (rules later : Rules) → Follows v rules → (v ≡ pass → Follows a later) → Follows (v >> a) (rules then later)
follows_after v a rules later first next = rw (verdict_first v a) (follows_bind v (λ u. a) rules later first (λ u e. next e))

pub follows_then : {B : Type 0} (v : Verdict) (a : Answer B) (rules later : Rules) → Follows v rules → Follows a later → Follows (v >> a) (rules then later)
follows_then v a rules later first next = follows_after v a rules later first (λ passed. next)

-- a part whose refusals are these
pub follows_part : {A : Type 0} (P : Refusal → Type 0) (m : Answer A) → ((r : Refusal) → (m ≡ refused r) ↔ P r) → Follows m (part P else accept)
follows_part P (accepted x) says = record {
  refuses = λ r. ((λ e. not_refused r x (sym e)), (λ w. ⊎_elim (says r).1 (λ n. absurd n.1) w));
  accepts = ((λ e. ((λ q h. not_refused q x (sym ((says q).1 h))), tt)), (λ w. (x, refl)));
}
follows_part P (refused q) says = record {
  refuses = λ r. ((λ e. inl ((says r).0 e)), (λ w. ⊎_elim (says r).1 (λ n. absurd n.1) w));
  accepts = ((λ e. not_refused q e.0 e.1), (λ w. absurd (w.0 q ((says q).0 refl))));
}

-- another form of what was accepted leaves the refusals
pub given_refuses : {A B : Type 0} (f : A → B) (m : Answer A) (r : Refusal) → (given f m ≡ refused r) ↔ (m ≡ refused r)
unfolding given
given_refuses f m r = (given_refused f m r, ap (given f))

-- ---- 0 is no refusal's number

-- no rule refuses with 0
abbrev pub NoneZero : Rules → Type 0
NoneZero accept = Unit {0}
NoneZero (q if P else later) = (q.number ≢ 0) × NoneZero later
NoneZero (part P else later) = ((q : Refusal) → P q → q.number ≢ 0) × NoneZero later

none_refuses : (rules : Rules) → NoneZero rules → (r : Refusal) → Refuses rules r → r.number ≢ 0
none_refuses accept n r h = absurd h
none_refuses (q if P else later) n r h = ⊎_elim (λ here. subst (λ (x : Refusal). x.number ≢ 0) here.1 n.0) (λ w. none_refuses later n.1 r w.1) h
none_refuses (part P else later) n r h = ⊎_elim (n.0 r) (λ w. none_refuses later n.1 r w.1) h

-- so an answer that follows such rules is not refused with it
pub refused_not_zero : {A : Type 0} {a : Answer A} {rules : Rules} → Follows a rules → NoneZero rules → (r : Refusal) → a ≡ refused r → r.number ≢ 0
refused_not_zero {rules} f n r e = none_refuses rules n r ((f.refuses r).0 e)
