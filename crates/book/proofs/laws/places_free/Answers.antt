use Rattle.book.proofs.Slots.{places_free}
use Rattle.book.proofs.laws.places_free.Goals as goal

pub returns : goal.returns
returns c = places_free
