use Rattle.cap_bare.proofs.Verdict.{verdict-accepted, verdict-complete, verdict-refused, verdict-first, verdict-kind, verdict-leads, verdict-safe}
use Rattle.cap_bare.proofs.verify.bare_verify.Goals as goal

pub returns-clause-accepted : goal.returns-clause-accepted
returns-clause-accepted c = verdict-accepted c.args.code.bytes.now c.args.bare c.walked.result c.walked.ensures

pub returns-clause-complete : goal.returns-clause-complete
returns-clause-complete c = verdict-complete c.args.code.bytes.now c.args.bare c.walked.result c.walked.ensures

pub returns-clause-refused : goal.returns-clause-refused
returns-clause-refused c = verdict-refused c.args.code.bytes.now c.args.bare c.walked.result c.walked.ensures

pub returns-clause-first_flaw : goal.returns-clause-first_flaw
returns-clause-first_flaw c = verdict-first c.args.code.bytes.now c.args.bare c.walked.result c.walked.ensures

pub returns-clause-ill_formed : goal.returns-clause-ill_formed
returns-clause-ill_formed c = verdict-kind c.args.code.bytes.now c.args.bare c.walked.result c.walked.ensures

pub returns-clause-fault_free : goal.returns-clause-fault_free
returns-clause-fault_free c = verdict-safe c.args.code.bytes.now c.args.bare c.walked.result c.walked.ensures c.requires.filled

pub returns-clause-leads : goal.returns-clause-leads
returns-clause-leads c = verdict-leads c.args.code.bytes.now c.args.bare c.walked.result c.walked.ensures
