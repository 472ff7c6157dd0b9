use Rattle.dfdl_xml_tree.proofs.scope.+find_from.Given as goal

abbrev pub decreases-find_from : goal.decreases-find_from
decreases-find_from l = l.most
