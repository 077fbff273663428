-- The messages worked out by hand are read and written as they stand.
-- Assumes nothing.
use mathlib.Core.Path.{refl}
use Rattle.records.specs.Every.{Every}
use Rattle.cases.specs.Computed.{computed}
use Rattle.cases.specs.Messages.{IsRead, IsWritten, IsGood, IsAccepted, good_messages, accepted_messages}

pub good_right : Every IsGood good_messages
unfolding computed Every IsRead IsWritten IsGood good_messages
good_right =
    ((refl, refl), ((refl, refl), ((refl, refl), ((refl, refl), ((refl, refl), ((refl, refl), ((refl, refl), ((refl, refl), ((refl, refl), ((refl, refl), ((refl, refl), ((refl, refl), ((refl, refl), ((refl, refl), ((refl, refl), ((refl, refl), ((refl, refl), ((refl, refl), tt))))))))))))))))))

pub accepted_right : Every IsAccepted accepted_messages
unfolding computed Every IsRead IsAccepted accepted_messages
accepted_right = (refl, (refl, (refl, (refl, (refl, (refl, (refl, (refl, (refl, (refl, (refl, (refl, (refl, (refl, (refl, tt)))))))))))))))
