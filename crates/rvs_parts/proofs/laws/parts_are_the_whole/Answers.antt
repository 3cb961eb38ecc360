use Rattle.rvs_parts.proofs.Adding.{each_is_in_one, parts_add_up, parts_are_mapped, parts_are_all}
use Rattle.rvs_parts.proofs.Adding.{one_part_is_all}
use Rattle.rvs_parts.proofs.Sharing.{things_are_in_one, parts_have_no_more}
use Rattle.rvs_parts.proofs.laws.parts_are_the_whole.Goals as goal

pub returns-clause-one : goal.returns-clause-one
returns-clause-one g c = each_is_in_one

pub returns-clause-sums : goal.returns-clause-sums
returns-clause-sums g c = parts_add_up

pub returns-clause-mapped : goal.returns-clause-mapped
returns-clause-mapped g c = parts_are_mapped

pub returns-clause-all : goal.returns-clause-all
returns-clause-all g c = parts_are_all

pub returns-clause-whole : goal.returns-clause-whole
returns-clause-whole g c = one_part_is_all

pub returns-clause-things : goal.returns-clause-things
returns-clause-things g c = things_are_in_one

pub returns-clause-no_more : goal.returns-clause-no_more
returns-clause-no_more g c = parts_have_no_more
