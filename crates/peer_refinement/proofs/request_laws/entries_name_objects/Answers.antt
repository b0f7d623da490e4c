use Rattle.peer_refinement.proofs.Names.{decoded_named, spelled_named, one_entry}
use Rattle.peer_refinement.proofs.Looks.{looks_so, kept_so, confirmed_so}
use Rattle.peer_refinement.proofs.request_laws.entries_name_objects.Goals as goal

pub returns-clause-decoded : goal.returns-clause-decoded
returns-clause-decoded c = decoded_named

pub returns-clause-spelled : goal.returns-clause-spelled
returns-clause-spelled c = spelled_named

pub returns-clause-one : goal.returns-clause-one
returns-clause-one c = one_entry

pub returns-clause-looks : goal.returns-clause-looks
returns-clause-looks c = looks_so

pub returns-clause-kept : goal.returns-clause-kept
returns-clause-kept c = kept_so

pub returns-clause-confirmed : goal.returns-clause-confirmed
returns-clause-confirmed c = confirmed_so
