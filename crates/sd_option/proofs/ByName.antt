-- The rules' table by the code's own names: by computing. Assumes nothing.
use Rattle.std.specs.Prelude.{Option, Some, None}
use Prim.Native.Nat.{ℕ}
use native.Mathlib.Omega.{arith}
use Rattle.std.proofs.lemmas.Bool.Decides.{nat_tests}
use mathlib.Core.Path.{◌≡◌, refl, ap, ◌∙◌}
use mathlib.Core.Bool.{Bool, true, false, ◌||◌}
use mathlib.Core.Logic.{◌↔◌, ◌⊎◌, ⊎_elim}
use lib.Dec.{eqb}
use Rattle.sd_format.specs.Kinds.{Row, row_of, row_in, kinds}
use Rattle.sd_format.proofs.KindLaws.{row_unknown}
use Rattle.sd_option.specs.declared.kinds.Family.TheVariants.{Ipv4, Ipv6}
use Rattle.sd_option.specs.declared.kinds.Role.TheVariants.{Endpoint, Multicast, SdEndpoint}
use Rattle.sd_option.specs.declared.kinds.OptionKind.{OptionKind}
use Rattle.sd_option.specs.declared.kinds.OptionKind.TheVariants as kind
use Rattle.sd_option.specs.Kinds.{kind_said, length_encoded, has_protocol, encoded, taken}
use Rattle.sd_option.specs.ByName.{Named, ByName}
use Rattle.sd_option.proofs.KindLaws.{kind_one_to_one}

-- by the row that the table has for the type
by_row : (code : ℕ) (w : Row) (k : OptionKind) (l : Option ℕ) (p : Bool) → row_of code ≡ w → w.code ≡ code → w.kind ≡ kind_said k → length_encoded w.len ≡ l
    → has_protocol w.kind ≡ p → Named code k l p
by_row code w k l p is same kind-is len_is has-is =
    record {
      kind = λ x e. kind_one_to_one x k (e ∙ ap (λ (v : Row). v.kind) is ∙ kind-is);
      row = λ x e. e ∙ ap encoded is ∙ (λ i. record { code = same i; exact_len = len_is i; has_protocol = has-is i });
    }

abbrev multicast_type : ℕ → Bool
multicast_type code = eqb code 0x14 || eqb code 0x16

-- which protocols are taken, by whether the type is one of multicast's
either : (code p : ℕ) → multicast_type code ≡ false → (taken code p ≡ true) ↔ ((p ≡ 0x06) ⊎ (p ≡ 0x11))
either code p other = ((λ e. grind (arith, nat_tests)), (λ w. grind (arith, nat_tests)))

udp : (code p : ℕ) → multicast_type code ≡ true → (taken code p ≡ true) ↔ (p ≡ 0x11)
udp code p is = ((λ e. grind (arith, nat_tests)), (λ w. grind (arith, nat_tests)))

pub by_name : ByName
unfolding row_of row_in kinds
by_name =
    record {
      configuration = by_row 0x01 _ kind.Configuration None false refl refl refl refl refl;
      load_balancing = by_row 0x02 _ kind.LoadBalancing (Some 5) false refl refl refl refl refl;
      ipv4_endpoint = by_row 0x04 _ (kind.Address Ipv4 Endpoint) (Some 9) true refl refl refl refl refl;
      ipv4_multicast = by_row 0x14 _ (kind.Address Ipv4 Multicast) (Some 9) true refl refl refl refl refl;
      ipv4_sd_endpoint = by_row 0x24 _ (kind.Address Ipv4 SdEndpoint) (Some 9) true refl refl refl refl refl;
      ipv6_endpoint = by_row 0x06 _ (kind.Address Ipv6 Endpoint) (Some 21) true refl refl refl refl refl;
      ipv6_multicast = by_row 0x16 _ (kind.Address Ipv6 Multicast) (Some 21) true refl refl refl refl refl;
      ipv6_sd_endpoint = by_row 0x26 _ (kind.Address Ipv6 SdEndpoint) (Some 21) true refl refl refl refl refl;
      unknown = λ code u. by_row code _ kind.Unknown None false (row_unknown code u) refl refl refl refl;
      endpoints = λ code p is.
          let typed : (k : ℕ) → multicast_type k ≡ false → code ≡ k → (taken code p ≡ true) ↔ ((p ≡ 0x06) ⊎ (p ≡ 0x11)) = λ k not-it e. either code p (ap multicast_type e ∙ not-it) in
          ⊎_elim (typed 0x04 refl) (⊎_elim (typed 0x24 refl) (⊎_elim (typed 0x06 refl) (typed 0x26 refl))) is;
      multicasts = λ code p is. ⊎_elim (λ e. udp code p (ap multicast_type e)) (λ e. udp code p (ap multicast_type e)) is;
      discard = λ g. refl;
      strict = λ g. refl;
    }
