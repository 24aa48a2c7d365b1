-- One option as its type and the bytes after it: read from its layout, and laid out again. Assumes nothing.
use mathlib.Core.Path.{◌≡◌, refl, ◌∙◌, subst}
use mathlib.Core.List.{List, [], ◌∷◌, ◌++◌}
use Prim.Native.Nat.{ℕ, suc, ◌+◌, ◌*◌, ◌/◌, ◌%◌, ◌≤◌}
use native.Mathlib.Omega.{arith}
use lib.ListN.{length, take, drop, get_or, length-append, length-drop, take-append-drop}
use lib.Seq.{take-append_seam, length-take-le}
use borrow.Author.Tests.{ltb-false, eqb-false, le-ltb, ne_eqb}
use Rattle.numbers.specs.Answers.{accepted, Verdict, pass, refuse◌when◌else◌}
use Rattle.numbers.specs.Bytes.{Bytes, be16, at16}
use Rattle.numbers.proofs.AnswerLaws.{when_accepted, accepted_inj, bind_accepted, bind_pass, then_accepted, then_pass}
use Rattle.sd_format.specs.Kinds.{Kind, judge_kind}
use Rattle.sd_format.specs.Frames.{Frame, size, frame, one_option}

-- the layout of an option whose kind is not looked at
unfoldable pub lay_frame : Frame → List ℕ
lay_frame f = be16 (length f.body) ++ (f.type ∷ f.body)

pub length_frame : (f : Frame) → length (lay_frame f) ≡ size f
unfolding lay_frame be16
length_frame f = omega arith

back16 : (n : ℕ) → n / 256 * 256 + n % 256 ≡ n
back16 n = omega arith

-- which way `frame` goes on three bytes and more
frame_step : (a b k n : ℕ) (rest : List ℕ) → a * 256 + b ≡ n → 1 ≤ n → n ≤ length rest
    → frame (a ∷ b ∷ k ∷ rest) ≡ accepted (record { type = k; body = take n rest })
unfolding frame at16 refuse◌when◌else◌
frame_step a b k n rest e pos h =
    rw (
      le-ltb (suc (suc (suc (length rest)))) 3 (omega arith),
      e,
      ne_eqb n 0 (λ z. omega arith),
      le-ltb (suc (suc (suc (length rest)))) (3 + n) (omega arith),
    )

-- an option with a body is read from its layout, whatever follows
frame_lay : (f : Frame) (rest : List ℕ) → 1 ≤ length f.body → frame (lay_frame f ++ rest) ≡ accepted f
unfolding lay_frame be16
frame_lay f rest h =
    frame_step _ _ f.type (length f.body) (f.body ++ rest) (back16 _) h (simp length-append (omega arith))
    ∙ rw take-append_seam

-- a head and its body, laid out again
lay_again : (s : List ℕ) (n : ℕ) → Bytes s → at16 s 0 ≡ n → 3 + n ≤ length s
    → n / 256 ∷ n % 256 ∷ get_or s 2 0 ∷ (take n (drop 3 s) ++ drop (3 + n) s) ≡ s
unfolding at16
lay_again [] n b e h = absurd (omega arith)
lay_again (x ∷ []) n b e h = absurd (omega arith)
lay_again (x ∷ y ∷ []) n b e h = absurd (omega arith)
lay_again (x ∷ y ∷ k ∷ rest) n b e h =
    let hi : n / 256 ≡ x = omega (arith, b 1) in
    let lo : n % 256 ≡ y = omega (arith, b 1) in
    let past : 3 + n ≡ suc (suc (suc n)) = omega arith in
    rw (past, take-append-drop n rest, hi, lo)

-- what an accepted frame says of the bytes
pub record Framed (s : List ℕ) (f : Frame) : Type 0 where
  pub some_body : 1 ≤ length f.body
  pub within : size f ≤ length s
  pub type_at : get_or s 2 0 ≡ f.type
  pub body_at : take (length f.body) (drop 3 s) ≡ f.body
  pub again : Bytes s → lay_frame f ++ drop (size f) s ≡ s

framed : (s : List ℕ) (n : ℕ) → at16 s 0 ≡ n → 1 ≤ n → 3 + n ≤ length s → Framed s (record { type = get_or s 2 0; body = take n (drop 3 s) })
unfolding lay_frame be16
framed s n e pos long =
    let full : length (take n (drop 3 s)) ≡ n = length-take-le n (drop 3 s) (rw length-drop (omega arith)) in
    record {
      some_body = rw full pos;
      within = rw full long;
      type_at = refl;
      body_at = rw full;
      again = λ b. rw full (lay_again s n b e long);
    }

-- an accepted frame stands within the bytes, its body as long as its length says
pub frame_is : (s : List ℕ) (f : Frame) → frame s ≡ accepted f
    → (1 ≤ at16 s 0) × (3 + at16 s 0 ≤ length s) × (record { type = get_or s 2 0; body = take (at16 s 0) (drop 3 s) } ≡ f)
unfolding frame
frame_is s f e =
    let w1 = when_accepted _ _ _ _ e in
    let w2 = when_accepted _ _ _ _ w1.1 in
    let w3 = when_accepted _ _ _ _ w2.1 in
    (omega (arith, eqb-false (at16 s 0) 0 w2.0), ltb-false _ _ w3.0, accepted_inj _ f w3.1)

pub frame_says : (s : List ℕ) (f : Frame) → frame s ≡ accepted f → Framed s f
frame_says s f e =
    let (pos, long, same) = frame_is s f e in
    subst (Framed s) same (framed s (at16 s 0) refl pos long)

-- ---- with its kind

module _ (content : Kind → List ℕ → Verdict) where
  -- an option that may be laid out
  pub record Sound (f : Frame) : Type 0 where
    pub some_body : 1 ≤ length f.body
    pub judged : judge_kind content f.type f.body ≡ pass

  pub option_lay : (f : Frame) (rest : List ℕ) → Sound f → one_option content (lay_frame f ++ rest) ≡ accepted f
  unfolding one_option
  option_lay f rest w = bind_pass _ _ f (frame_lay f rest w.some_body) ∙ then_pass _ _ w.judged

  option_parts : (s : List ℕ) (f : Frame) → one_option content s ≡ accepted f → (frame s ≡ accepted f) × (judge_kind content f.type f.body ≡ pass)
  unfolding one_option
  option_parts s f e =
      let (p, framed, r) = bind_accepted _ _ _ e in
      let (judged, same) = then_accepted _ _ _ r in
      subst (λ (q : Frame). (frame s ≡ accepted q) × (judge_kind content q.type q.body ≡ pass)) (accepted_inj p f same) (framed, judged)

  pub option_says : (s : List ℕ) (f : Frame) → one_option content s ≡ accepted f → Sound f × Framed s f
  option_says s f e =
      let (framed, judged) = option_parts s f e in
      let w = frame_says s f framed in
      (record { some_body = w.some_body; judged = judged }, w)

  pub option_within : (s : List ℕ) (f : Frame) → one_option content s ≡ accepted f → (4 ≤ size f) × (size f ≤ length s)
  option_within s f e =
      let w = (option_says s f e).1 in
      (omega (arith, w.some_body), w.within)
