use Rattle.dwg_cert.proofs.AcceptedOfSound.{sound_is_accepted}
use Rattle.dwg_cert.proofs.Agreeing.{ranks_agree, places_agree}
use Rattle.dwg_cert.proofs.ChainPlaces.{places_are_in_chains}
use Rattle.dwg_cert.proofs.Ranks.{ranks_are_steps}
use Rattle.dwg_cert.proofs.SoundOfAccepted.{accepted_is_sound}
use Rattle.dwg_cert.proofs.Reported.{acceptance_is_reported}
use Rattle.dwg_cert.proofs.acceptance.acceptance_laws.Goals as goal

pub returns-clause-sound : goal.returns-clause-sound
returns-clause-sound c = accepted_is_sound

pub returns-clause-accepted : goal.returns-clause-accepted
returns-clause-accepted c = sound_is_accepted

pub returns-clause-ranks : goal.returns-clause-ranks
returns-clause-ranks c = ranks_are_steps

pub returns-clause-places : goal.returns-clause-places
returns-clause-places c = places_are_in_chains

pub returns-clause-ranks_agree : goal.returns-clause-ranks_agree
returns-clause-ranks_agree c = ranks_agree

pub returns-clause-places_agree : goal.returns-clause-places_agree
returns-clause-places_agree c = places_agree

pub returns-clause-reported : goal.returns-clause-reported
returns-clause-reported c = acceptance_is_reported
