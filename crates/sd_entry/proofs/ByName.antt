-- What an entry says lies where its fields' names belong, whatever its kind: by computing. Assumes nothing.
use mathlib.Core.Path.{refl}
use Rattle.sd_format.specs.Layout.{lay_head, lay_group, lay_entry}
use Rattle.sd_entry.specs.ByName.{ByName}
use Rattle.sd_entry.specs.declared.SdServiceEntryType.TheVariants.{FindService, OfferService}
use Rattle.sd_entry.specs.declared.EventGroupEntryType.TheVariants.{SubscribeOrStop, SubscribeAckOrNack}
use Rattle.sd_entry.specs.declared.SdEntry.{SdEntry}
use Rattle.sd_entry.specs.declared.SdEntry.TheVariants.{Service, Eventgroup}

pub by_name : (e : SdEntry) → ByName e
unfolding lay_entry lay_head lay_group
by_name (Service FindService h m) = record { laid = refl }
by_name (Service OfferService h m) = record { laid = refl }
by_name (Eventgroup SubscribeOrStop h g) = record { laid = refl }
by_name (Eventgroup SubscribeAckOrNack h g) = record { laid = refl }
