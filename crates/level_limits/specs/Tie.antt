-- How the code's limits of a level and of a party's life stand for the definitions'.
use Rattle.base.specs.Limits.{level_messages, level_messages_worst, level_rules, max_rules, outgoing_size}
use Rattle.level_limits.specs.declared.Limits as Code

-- the limits that the code has by name
abbrev pub limits : Code.Limits
limits = record {
  messages = level_messages;
  messages_worst = level_messages_worst;
  level_rules = level_rules;
  rules = max_rules;
  outgoing = outgoing_size;
}
