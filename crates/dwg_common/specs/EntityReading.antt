-- What a reader of entities has read, as the parts that the grammar gives.
use Rattle.dwg_common.specs.declared.entity.AfterDictionary.{AfterDictionary}
use Rattle.dwg_common.specs.declared.entity.Look.{Look}
use Rattle.dwg_common.specs.declared.entity.Named.{Named}
use Rattle.dwg_common.specs.declared.entity.Start.{Start}
use Rattle.dwg_common.specs.Entities.{StartParts, LookParts, NamedParts, AfterDictionaryParts}

-- what an entity begins with
abbrev pub start_read : Start → StartParts
start_read start = (start.app, (start.graphic, (tt, (start.mode, (start.reactors, (start.bylayer, start.nolinks))))))

-- its look
abbrev pub look_read : Look → LookParts
look_read look = (look.colour, (look.linetype_scale, (look.linetype_flag, (look.plotstyle_flag, (look.invisible, look.lineweight)))))

-- what it names after its dictionary
abbrev pub after_dictionary_read : AfterDictionary → AfterDictionaryParts
after_dictionary_read after = (after.links, (after.layer, (after.linetype, after.plotstyle)))

-- what it names
abbrev pub named_read : Named → NamedParts
named_read named = (named.owner, (named.reactors, (named.xdict, after_dictionary_read named.after)))
