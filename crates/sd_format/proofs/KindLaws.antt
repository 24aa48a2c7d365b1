-- The table of kinds against the layout's own type codes and lengths, and which protocols a role may carry. Assumes nothing.
use mathlib.Core.Path.{◌≡◌, refl, sym, ap, ◌∙◌}
use mathlib.Core.Bool.{Bool, true, false, ◌||◌, or-true, true≢false}
use mathlib.Core.Logic.{◌↔◌, inl, inr, ⊎_elim}
use Prim.Native.Nat.{ℕ}
use lib.Dec.{eqb}
use borrow.Author.Tests.{eq-eqb, ne_eqb, eqb-true, eqb-false}
use Rattle.numbers.proofs.TestLaws.{or_cases}
use Rattle.sd_format.specs.Options.{Family, ipv4, ipv6, Role, endpoint, multicast, sd_endpoint}
use Rattle.sd_format.specs.Kinds.{row, configuration, load_balancing, address, unknown, exactly, one_or_more, kinds, row_in, row_of, may_carry}
use Rattle.sd_format.specs.Layout.{lay_type, lay_length, Unknown, ProtocolFits}

-- ---- the rows, by what the layout writes

pub row_configuration : row_of 0x01 ≡ row 0x01 configuration one_or_more
unfolding row_of row_in kinds
row_configuration = refl

pub row_load_balancing : row_of 0x02 ≡ row 0x02 load_balancing (exactly 5)
unfolding row_of row_in kinds
row_load_balancing = refl

pub row_address : (family : Family) (role : Role) → row_of (lay_type family role) ≡ row (lay_type family role) (address family role) (exactly (lay_length family))
unfolding row_of row_in kinds
row_address ipv4 endpoint = refl
row_address ipv4 multicast = refl
row_address ipv4 sd_endpoint = refl
row_address ipv6 endpoint = refl
row_address ipv6 multicast = refl
row_address ipv6 sd_endpoint = refl

pub row_unknown : (type : ℕ) → Unknown type → row_of type ≡ row type unknown one_or_more
unfolding row_of row_in kinds
row_unknown type u =
    rw (
      ne_eqb type 0x01 u.not_configuration,
      ne_eqb type 0x02 u.not_load_balancing,
      ne_eqb type 0x04 (u.not_address ipv4 endpoint),
      ne_eqb type 0x14 (u.not_address ipv4 multicast),
      ne_eqb type 0x24 (u.not_address ipv4 sd_endpoint),
      ne_eqb type 0x06 (u.not_address ipv6 endpoint),
      ne_eqb type 0x16 (u.not_address ipv6 multicast),
      ne_eqb type 0x26 (u.not_address ipv6 sd_endpoint),
    )

-- ---- a type is one that the layout writes, or unknown

is {ℓ} : {X : Type ℓ} (a b : ℕ) → (a ≡ b → X) → ((a ≡ b → ⊥) → X) → X
is {X = X} a b same other = go (eqb a b) refl
  where
    go : (t : Bool) → eqb a b ≡ t → X
    go true e = same (eqb-true a b e)
    go false e = other (eqb-false a b e)

pub type-cases {ℓ} : {X : Type ℓ} (type : ℕ) → (type ≡ 0x01 → X) → (type ≡ 0x02 → X)
    → ((family : Family) (role : Role) → type ≡ lay_type family role → X) → (Unknown type → X) → X
type-cases type conf load addr other =
    is type 0x01 conf (λ n1.
    is type 0x02 load (λ n2.
    is type 0x04 (addr ipv4 endpoint) (λ n4.
    is type 0x14 (addr ipv4 multicast) (λ n14.
    is type 0x24 (addr ipv4 sd_endpoint) (λ n24.
    is type 0x06 (addr ipv6 endpoint) (λ n6.
    is type 0x16 (addr ipv6 multicast) (λ n16.
    is type 0x26 (addr ipv6 sd_endpoint) (λ n26.
    other (record { not_configuration = n1; not_load_balancing = n2; not_address = not_any n4 n14 n24 n6 n16 n26 })))))))))
  where
    not_any : (type ≡ 0x04 → ⊥) → (type ≡ 0x14 → ⊥) → (type ≡ 0x24 → ⊥) → (type ≡ 0x06 → ⊥) → (type ≡ 0x16 → ⊥) → (type ≡ 0x26 → ⊥)
        → (family : Family) (role : Role) → type ≡ lay_type family role → ⊥
    not_any n4 n14 n24 n6 n16 n26 ipv4 endpoint = n4
    not_any n4 n14 n24 n6 n16 n26 ipv4 multicast = n14
    not_any n4 n14 n24 n6 n16 n26 ipv4 sd_endpoint = n24
    not_any n4 n14 n24 n6 n16 n26 ipv6 endpoint = n6
    not_any n4 n14 n24 n6 n16 n26 ipv6 multicast = n16
    not_any n4 n14 n24 n6 n16 n26 ipv6 sd_endpoint = n26

-- ---- a role may carry a protocol exactly where the layout says that it fits

is_multicast : Role → Bool
is_multicast endpoint = false
is_multicast multicast = true
is_multicast sd_endpoint = false

either_fits : (role : Role) (p : ℕ) → is_multicast role ≡ false → ((eqb p 0x06 || eqb p 0x11) ≡ true) ↔ ProtocolFits role p
unfolding is_multicast
either_fits role p other = (
  (λ e.
      record {
        tcp_or_udp = ⊎_elim (λ t. inl (eqb-true p 0x06 t)) (λ u. inr (eqb-true p 0x11 u)) (or_cases _ _ e);
        multicast_udp = λ is. absurd (true≢false (sym (ap is_multicast is) ∙ other));
      }),
  (λ w. ⊎_elim (λ t. rw (eq-eqb p 0x06 t)) (λ u. rw (eq-eqb p 0x11 u) (or-true (eqb p 0x06))) w.tcp_or_udp),
)

pub carries : (role : Role) (p : ℕ) → (may_carry role p ≡ true) ↔ ProtocolFits role p
unfolding may_carry is_multicast
carries endpoint p = either_fits endpoint p refl
carries multicast p = (
  (λ e. let udp = eqb-true p 0x11 e in record { tcp_or_udp = inr udp; multicast_udp = λ is. udp }),
  (λ w. eq-eqb p 0x11 (w.multicast_udp refl)),
)
carries sd_endpoint p = either_fits sd_endpoint p refl
