use Rattle.std.proofs.Common.{◌≡◌, Option, Some, None, IfOk, option_map, subst}
use Rattle.dfdl_scope.specs.Shown.{chain_of}
use Rattle.dfdl_checks.specs.Judged.{PrefixJudged}
use Rattle.dfdl_breaches.specs.PrefixesShown.{prefix_seen}
use Rattle.dfdl_breaches.specs.declared.prefixes.Prefix.{Prefix}
use Rattle.dfdl_breaches.proofs.PrefixTypes.{name_told, none_told}
use Rattle.dfdl_breaches.proofs.prefixes.prefix_at.Goals as goal

pub returns-in_default : goal.returns-in_default
returns-in_default c = none_told c.args.schema.now c.args.site (chain_of c.args.chain.now) c.requires.chain c.in_default.ensures

pub returns-in_default-writer : goal.returns-in_default-writer
returns-in_default-writer c =
    name_told c.args.schema.now c.args.site c.args.sites.now (chain_of c.args.chain.now) c.in-Some.text.now None c.requires.sites c.requires.chain c.in-Some.ensures
    c.in_default-writer.ensures.writer

pub returns : goal.returns
returns c =
    subst (λ (p : Option PrefixJudged). IfOk c.judged_written.result (λ (prefix : Option Prefix). option_map prefix_seen prefix ≡ p))
    (name_told c.args.schema.now c.args.site c.args.sites.now (chain_of c.args.chain.now) c.in-Some.text.now (Some c.in-Some-writer.writer) c.requires.sites
    c.requires.chain c.in-Some.ensures c.in-Some-writer.ensures.writer)
    c.judged_written.ensures
