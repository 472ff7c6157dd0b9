use Rattle.std.proofs.Common.{ℕ, Option, sym, subst}
use Rattle.dfdl_json.specs.Ready.{AreMembers, IsFirst}
use Rattle.dfdl_json.proofs.Firsts.{first_link, no_link, some_link}
use Rattle.dfdl_json.proofs.writing.Infoset.link_at.Goals as goal

pub link-requires : goal.link-requires
link-requires c =
    let (number, r, is, are) = c.requires in
    some_link c.args.self.now number r c.in-Some.place is (subst (λ (o : Option ℕ). AreMembers c.args.self.now number r o is) c.in-Some.is are)

pub returns-in-Some : goal.returns-in-Some
returns-in-Some c = λ number r is are.
    subst (λ (o : Option ℕ). IsFirst c.args.self.now number o is c.link.result) (sym c.in-Some.is)
    (first_link c.args.self.now number r c.in-Some.place c.link.result is
    (subst (λ (o : Option ℕ). AreMembers c.args.self.now number r o is) c.in-Some.is are) c.link.ensures)

pub returns-in-None : goal.returns-in-None
returns-in-None c = λ number r is are.
    no_link c.args.self.now number r is (subst (λ (o : Option ℕ). AreMembers c.args.self.now number r o is) c.in-None.is are)
