mod YardLemmas
