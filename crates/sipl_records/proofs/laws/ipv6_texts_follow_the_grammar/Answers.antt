use Rattle.sipl_records.proofs.Ipv6Reads.{address6_of_text-written}
use Rattle.sipl_records.proofs.Ipv6Sound.{address6_of_text-sound}
use Rattle.sipl_records.proofs.laws.ipv6_texts_follow_the_grammar.Goals as goal

pub returns : goal.returns
returns c = λ text number. (address6_of_text-sound text number, address6_of_text-written text number)
