use Rattle.std.proofs.Common.{refl, ap, rules}
use Rattle.dfdl_parse.proofs.Feeds.{agrees_none, stands_first}
use Rattle.dfdl_parse.proofs.session.Session.open.Goals as goal

pub returns-clause-stands : goal.returns-clause-stands
returns-clause-stands c = record {
  begins = refl;
  looks = 0;
  runs = λ more can. stands_first c.args.limits c.args.terms.now c.in_ok-open-2.field-0 c.in_ok-open.field-0 0 more
      c.in_ok-open-2.ensures.focus c.in_ok-open-2.ensures.stack c.in_ok-open-2.ensures.front c.in_ok-open-2.ensures.far
      (agrees_none c.in_ok-open.field-0 more (ap (λ held. held.bytes) c.in_ok-open.ensures) (ap (λ held. held.base) c.in_ok-open.ensures)
      (ap (λ held. held.ended) c.in_ok-open.ensures)) (ap (λ held. held.size) c.in_ok-open.ensures);
  counted = refl;
  taken = record {
    agrees = λ more can. agrees_none c.in_ok-open.field-0 more (ap (λ held. held.bytes) c.in_ok-open.ensures) (ap (λ held. held.base) c.in_ok-open.ensures)
        (ap (λ held. held.ended) c.in_ok-open.ensures);
    all = search rules;
  };
}
